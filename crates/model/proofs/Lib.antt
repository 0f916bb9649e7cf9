pub mod Remainders
pub mod Turns
pub mod Exchanges
pub mod Rooms
pub mod Whole
