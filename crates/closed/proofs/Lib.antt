pub mod Stamps
pub mod Tabling
