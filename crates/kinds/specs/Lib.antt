pub mod Kinds
pub mod Example
