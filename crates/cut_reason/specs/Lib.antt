pub mod CutReason
