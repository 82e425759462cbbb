pub mod Images
pub mod Ranks
pub mod Unique
