pub mod Entries
pub mod PairLines
