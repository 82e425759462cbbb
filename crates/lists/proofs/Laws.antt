-- What the proofs share, by module of the code.
-- Assumes nothing.
pub mod Many
pub mod Lists
pub mod Begun
