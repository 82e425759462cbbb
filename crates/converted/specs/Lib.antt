pub mod Convert
pub mod Examples
pub mod Gives
