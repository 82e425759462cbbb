pub mod Shift
pub mod JoinLaws
