pub mod Pair
pub mod Kept
