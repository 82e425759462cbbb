pub mod Laws
pub mod NoWrap
