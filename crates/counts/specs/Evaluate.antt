-- One name to unfold where a statement about what an H line tells is to be computed, beside the format's own: it opens every definition.
-- Assumes nothing.
use Rattle.std.specs.Prelude.{ℕ, List}
use Rattle.format.specs.Evaluate.{evaluate}
use Rattle.format.specs.Text.{bytes_of}
use Rattle.laws.specs.Places.{line_at, line_end, end_at, next_line}
use Rattle.counts.specs.Counts.{Counted, last_word, symbol_words, two_numbers, counts_line, tells, tells_at, first_told, counted, counts_in, told_counts}

unfoldable pub evaluate_counts : List ℕ → Counted
unfolding evaluate bytes_of line_at line_end end_at next_line last_word symbol_words two_numbers counts_line tells tells_at first_told counted counts_in told_counts
evaluate_counts text = told_counts text
