pub mod Pair
pub mod Back
pub mod Answer
pub mod Explain
