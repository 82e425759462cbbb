pub mod CellLaws
pub mod CellOf
