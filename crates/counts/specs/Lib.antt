pub mod Counts
pub mod Evaluate
pub mod Examples
