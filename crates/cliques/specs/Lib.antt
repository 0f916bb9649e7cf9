pub mod Graph
pub mod Sets
pub mod Completion
pub mod Paths
pub mod Listing
pub mod Shortcuts
pub mod Theorems
