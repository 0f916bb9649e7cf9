pub mod Chains
pub mod Faults
pub mod Lists
pub mod Standings
pub mod Passing
pub mod Sound
pub mod Gives
