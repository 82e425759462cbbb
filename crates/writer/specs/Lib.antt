pub mod Writes
pub mod Lays
