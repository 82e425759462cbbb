-- What the proofs share, by module of the code.
-- Assumes nothing.
pub mod Areas
pub mod Symbols
pub mod Entries
