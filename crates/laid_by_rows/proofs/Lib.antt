pub mod Placed
pub mod Numbers
pub mod Spans
pub mod Conditions
pub mod Fields
pub mod Lines
