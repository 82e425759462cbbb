pub mod Growth
pub mod GroupOne
pub mod TableRows
pub mod Unique
