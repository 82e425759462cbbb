pub mod Names
pub mod Fixups
pub mod Looked
