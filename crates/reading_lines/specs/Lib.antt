pub mod Laid
pub mod Onward
