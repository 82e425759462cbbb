pub mod Columns
pub mod Site
