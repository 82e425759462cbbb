pub mod Laws
pub mod Halted
pub mod Opening
