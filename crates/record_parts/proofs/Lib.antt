pub mod Decoded
pub mod Laws
pub mod Fragments
