pub mod Flips
pub mod Pairs
pub mod Places
pub mod Agrees
pub mod Follows
pub mod Scans
pub mod Answered
pub mod Changed
