pub mod Pairs
pub mod Usual
