-- What the proofs share.
-- Assumes nothing.
pub mod Fields
pub mod Ignored
