pub mod Entries
pub mod Lying
pub mod Pairs
pub mod Theorem
