-- What the proofs share, by module of the code.
-- Assumes nothing.
pub mod Line
pub mod Walk
pub mod Compared
