pub mod Roots
pub mod Found
pub mod Agree
pub mod Climbs
