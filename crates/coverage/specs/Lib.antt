pub mod Pair
pub mod Rows
pub mod Cover
