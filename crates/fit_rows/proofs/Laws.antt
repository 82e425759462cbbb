-- What the proofs share, by module of the code.
-- Assumes nothing.
pub mod Tests
pub mod Fragments
pub mod Spans
