pub mod Homes
pub mod Symbols
