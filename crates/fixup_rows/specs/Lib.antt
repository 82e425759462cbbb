pub mod Fixups
pub mod Ranges
