pub mod Steps
pub mod StopLaws
pub mod WriteLaws
pub mod WholeLaws
