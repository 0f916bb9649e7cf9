pub mod Logic
pub mod Lexed
pub mod Runs
pub mod Shapes
pub mod Exactly
