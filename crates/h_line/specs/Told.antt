-- The code's answer about the H line as the definition's one.
-- Assumes nothing.
use Rattle.std.specs.Prelude.{ℕ, Some, None}
use Rattle.std.specs.Prelude as std
use Rattle.std.proofs.Math.Option.{Option, none, some}
use Rattle.counts.specs.Counts as the
use Rattle.h_line.specs.declared.Told.{Told}

abbrev pub two_of : ℕ → ℕ → the.Two
two_of a s = record { areas = a; symbols = s }

abbrev pub told_two : std.Option Told → Option the.Two
told_two (Some t) = some (two_of t.areas t.symbols)
told_two None = none
