pub mod Opening
pub mod Meeting
