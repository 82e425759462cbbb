pub mod FoundLaws
pub mod WholeLaws
pub mod Matches
