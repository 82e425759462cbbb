pub mod Going
pub mod Room
