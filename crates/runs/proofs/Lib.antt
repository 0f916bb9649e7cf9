pub mod Kept
pub mod Permuted
