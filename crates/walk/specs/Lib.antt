pub mod Search
pub mod Keeps
pub mod Single
pub mod Whole
