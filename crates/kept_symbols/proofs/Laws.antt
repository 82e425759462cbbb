-- What the proofs share, by module of the code.
-- Assumes nothing.
pub mod Tests
pub mod Marks
pub mod Gone
