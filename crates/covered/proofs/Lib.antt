pub mod Maps
pub mod Unwritten
