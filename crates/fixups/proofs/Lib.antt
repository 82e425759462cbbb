pub mod RowLaws
pub mod AddLaws
pub mod NextLaws
pub mod EntryLaws
pub mod LineLaws
pub mod PassLaws
