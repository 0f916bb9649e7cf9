pub mod Marks
pub mod Spaces
pub mod Stands
pub mod Reading
pub mod Changes
