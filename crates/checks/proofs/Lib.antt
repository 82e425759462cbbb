pub mod CheckLaws
pub mod SureLaws
