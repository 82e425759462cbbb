pub mod Cells
pub mod PairLaws
pub mod BackLaws
pub mod AnswerLaws
pub mod Rows
pub mod RecordLaws
pub mod ExplainLaws
