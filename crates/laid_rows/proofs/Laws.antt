-- What the proofs share, by module of the code.
-- Assumes nothing.
pub mod Fragments
pub mod Span
pub mod Pair
pub mod Pairs
