pub mod Steps
pub mod Model
pub mod Runs
pub mod Obeys
pub mod Theorems
