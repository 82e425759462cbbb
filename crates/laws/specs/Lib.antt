pub mod Places
pub mod Rows
pub mod Tab
pub mod Part
pub mod PairRows
pub mod Spared
