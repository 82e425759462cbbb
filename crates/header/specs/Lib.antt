pub mod Told
pub mod Letters
