-- No reader goes past the end of its line.
-- Assumes nothing.
pub mod Readers
pub mod Entries
pub mod Pairs
pub use Rattle.laws.proofs.Within.Readers.{Holds, Keeps, Upto, past-within, run-within, then-holds}
pub use Rattle.laws.proofs.Within.Entries.{EntryIn, Named, entry_in}
pub use Rattle.laws.proofs.Within.Pairs.{PairIn, pair-in, relocation-keeps}
