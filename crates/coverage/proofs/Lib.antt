pub mod PairLaws
pub mod RowLaws
pub mod CoverLaws
