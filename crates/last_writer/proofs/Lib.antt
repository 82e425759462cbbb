pub mod Image
pub mod Spans
pub mod Seek
