pub mod Tables
pub mod Closes
pub mod Tells
