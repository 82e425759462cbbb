pub mod ClassLaws
pub mod BitLaws
pub mod Unique
