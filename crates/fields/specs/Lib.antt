pub mod Told
pub mod Due
