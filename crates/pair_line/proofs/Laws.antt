-- What the proofs share, by module of the code.
-- Assumes nothing.
pub mod Content
pub mod Relocations
pub mod Usual
