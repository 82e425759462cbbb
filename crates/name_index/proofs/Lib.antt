pub mod Laws
pub mod Indexed
