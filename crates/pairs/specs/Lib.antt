pub mod Tables
pub mod Checks
pub mod Selections
pub mod Lists
