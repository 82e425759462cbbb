pub mod Admits
pub mod Examples
