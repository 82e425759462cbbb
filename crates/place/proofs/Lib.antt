pub mod Order
pub mod WorkedLaws
pub mod PlainPairLaws
pub mod PairLaws
pub mod Use
pub mod Unique
pub mod KnownRows
