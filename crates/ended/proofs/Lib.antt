pub mod WasRead
pub mod Laws
pub mod Unique
