pub mod Records
pub mod Sections
pub mod Grammar
pub mod Rules
pub mod Theorems
