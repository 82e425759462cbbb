-- The answer about one position as numbers.
-- Assumes nothing.
use Rattle.std.specs.Prelude.{ℕ}
use Rattle.std.proofs.Math.Option.{Option, none, some}
use Rattle.format.specs.Outcome.{Outcome, fine, refused}
use Rattle.last_writer.specs.LastWriter.{Found}
use Rattle.position_answer.specs.declared.ExplainNumbers.{ExplainNumbers}

-- the line that wrote it, if one did
abbrev pub found_numbers : Option Found → ExplainNumbers
found_numbers none = record { refusal = 0; written = 0; place = 0; value = 0; mask = 0 }
found_numbers (some f) = record { refusal = 0; written = 1; place = f.place; value = f.value; mask = f.mask }

-- an answer
abbrev pub explain_numbers : Outcome (Option Found) → ExplainNumbers
explain_numbers (refused n p) = record { refusal = n; written = 0; place = p; value = 0; mask = 0 }
explain_numbers (fine found) = found_numbers found
