pub mod Told
pub mod Usual
