pub mod Faults
pub mod Standing
pub mod Pigeons
pub mod Chosen
pub mod Listed
pub mod Rising
