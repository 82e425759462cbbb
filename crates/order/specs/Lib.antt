pub mod Writes
pub mod Order
pub mod Texts
pub mod Example
