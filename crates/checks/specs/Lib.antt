pub mod Check
pub mod Sure
