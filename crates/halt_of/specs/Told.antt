-- A line by its bytes and the length of its line end, and a halt's place in the text.
-- Assumes nothing.
use Rattle.std.specs.Prelude.{ℕ, ◌+◌, List}
use Rattle.format.specs.Lines.{Line}
use Rattle.halt.specs.Halt as the

abbrev pub line_with : List ℕ → ℕ → Line
line_with s e = record { bytes = s; ends = e }

-- a halt in a line that begins at a place of the text
abbrev pub further : ℕ → the.Halt → the.Halt
further p h = record { reason = h.reason; place = p + h.place }
