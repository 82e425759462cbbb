pub mod Stepping
pub mod Turns
pub mod Gates
pub mod Whole
