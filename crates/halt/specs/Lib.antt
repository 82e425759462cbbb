pub mod Halt
pub mod Evaluate
pub mod Examples
