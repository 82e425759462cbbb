pub mod Totals
pub mod Many
