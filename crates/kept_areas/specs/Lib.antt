pub mod Images
pub mod Told
