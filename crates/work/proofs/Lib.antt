pub mod WorkLaws
pub mod AllLaws
pub mod Use
pub mod Unique
