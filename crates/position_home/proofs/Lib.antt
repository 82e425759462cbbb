pub mod Laws
pub mod Use
