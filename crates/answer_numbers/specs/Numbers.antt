-- Answers about headers and targets as numbers, and how much a caller has to lend.
-- Assumes nothing.
use Rattle.std.specs.Prelude.{ℕ, ◌*◌}
use Rattle.std.proofs.Math.Option.{Option, none, some}
use Rattle.format.specs.Outcome.{Outcome, fine, refused}
use Rattle.format.specs.Header.{Head}
use Rattle.format.specs.Rows.{area_columns, fixup_columns, flag, symbol_columns}
use Rattle.answer_numbers.specs.declared.answers.HeaderNumbers.{HeaderNumbers}
use Rattle.answer_numbers.specs.declared.answers.TargetNumbers.{TargetNumbers}
use Rattle.answer_numbers.specs.declared.lent.Rooms.{Rooms}
use Rattle.answer_numbers.specs.declared.lent.Widths.{Widths}

-- what a header tells, or 4
abbrev pub header_numbers : Option Head → HeaderNumbers
header_numbers none = record { refusal = 4; radix = 0; big = 0; width = 0 }
header_numbers (some h) = record { refusal = 0; radix = h.form.radix; big = flag h.form.big; width = h.form.address_length }

-- a target's answer
abbrev pub target_numbers : Outcome ℕ → TargetNumbers
target_numbers (fine t) = record { refusal = 0; target = t }
target_numbers (refused n p) = record { refusal = n; target = 0 }

-- numbers in a row of each table
abbrev pub widths : Widths
widths = record { area = area_columns; symbol = symbol_columns; fixup = fixup_columns }

-- the longest text, and the room of each lent buffer
abbrev pub rooms : Rooms
rooms = record {
  text = 65536;
  areas = 64 * area_columns;
  symbols = 1024 * symbol_columns;
  values = 65536;
  masks = 65536;
  fixups = 1024 * fixup_columns;
}
