pub mod Walking
pub mod Pairs
pub mod Use
