pub mod Converts
pub mod Numbers
