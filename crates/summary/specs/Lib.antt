pub mod Summing
pub mod Printed
