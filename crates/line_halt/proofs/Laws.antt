-- What the proofs share, by module of the code.
-- Assumes nothing.
pub mod GroupOne
