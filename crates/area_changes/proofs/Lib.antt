pub mod Pairs
pub mod Sides
