-- The answer about one position, as the definition has it.
-- Assumes nothing.
use Rattle.std.proofs.Math.Option.{Option, none, some}
use Rattle.format.specs.Outcome.{Outcome, fine, refused}
use Rattle.last_writer.specs.LastWriter.{Found}
use Rattle.position_answer.specs.declared.Explained.{Explained}
use Rattle.position_answer.specs.declared.Explained.TheVariants.{Refused, Unwritten, Wrote}

-- the definition's answer for each case
abbrev pub told : Explained → Outcome (Option Found)
told (Refused n p) = refused n p
told Unwritten = fine none
told (Wrote v m p) = fine (some (record { place = p; value = v; mask = m }))
