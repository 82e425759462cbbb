pub mod AreaTable
pub mod Grouped
pub mod Theorem
