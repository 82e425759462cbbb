-- What the proofs share.
-- Assumes nothing.
pub mod Joined
pub mod Joins
