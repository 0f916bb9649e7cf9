pub mod Shift
pub mod Front
pub mod Taken
pub mod Search
pub mod Rising
