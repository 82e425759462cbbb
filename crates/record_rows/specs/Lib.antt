pub mod RecordRows
pub mod ReadPairs
