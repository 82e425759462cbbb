pub mod HeaderLength
pub mod Uses
pub mod Bounds
pub mod Roomy
