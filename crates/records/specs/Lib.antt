pub mod Storing
pub mod Walking
