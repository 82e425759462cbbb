pub mod Parts
pub mod Looked
