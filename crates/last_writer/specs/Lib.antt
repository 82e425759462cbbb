pub mod LastWriter
pub mod Example
