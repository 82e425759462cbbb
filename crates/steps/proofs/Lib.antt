pub mod EmptySteps
pub mod Entries
pub mod PairLines
pub mod PairSteps
pub mod Stored
pub mod Unique
