pub mod Agrees
pub mod Bounds
