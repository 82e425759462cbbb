pub mod RowRecords
pub mod GivesBack
pub mod GoodRows
