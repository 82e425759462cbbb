pub mod Numbers
pub mod Ended
