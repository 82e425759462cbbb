-- What a line that was read does to its group.
-- Assumes nothing.
use Rattle.std.specs.Prelude.{ℕ, Bool, ◌&&◌, eqb, leb}
use Rattle.format.specs.Lists.{pick}
use Rattle.line_step.specs.declared.LineStep.{LineStep}
use Rattle.line_step.specs.declared.LineStep.TheVariants.{Stops, Goes, Last}

-- used whole with a full line end behind it, it goes on; else it stops the ended reading, and is the last of the plain one
abbrev pub line_step : Bool → ℕ → ℕ → ℕ → ℕ → ℕ → LineStep
line_step ended used n e next place = pick (eqb used n && leb 1 e) (Goes (pick ended next place)) (pick ended Stops (Last place))
