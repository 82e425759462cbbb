pub mod Covered
pub mod Example
