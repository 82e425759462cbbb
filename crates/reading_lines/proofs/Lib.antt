pub mod Idle
pub mod Carrying
pub mod GroupTwo
pub mod Laid
pub mod Nothing
pub mod From
