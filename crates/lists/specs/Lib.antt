pub mod Many
pub mod Reach
