-- One name to unfold where a statement about a halt is to be computed, beside the format's own: it opens every definition.
-- Assumes nothing.
use Rattle.std.specs.Prelude.{ℕ, List}
use Rattle.std.proofs.Math.Option.{Option}
use Rattle.format.specs.Evaluate.{evaluate}
use Rattle.format.specs.Text.{bytes_of}
use Rattle.laws.specs.Places.{line_at, line_end, end_at, next_line}
use Rattle.halt.specs.Halt.{Halt, fields_due, area_due, fragment_due, entry_halt, pair_halt, lines_halt, halt_at, halt_in, halt_of}

unfoldable pub evaluate_halt : List ℕ → Option Halt
unfolding evaluate bytes_of line_at line_end end_at next_line fields_due area_due fragment_due entry_halt pair_halt lines_halt halt_at halt_in halt_of
evaluate_halt text = halt_of text
