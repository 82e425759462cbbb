-- The limits of a pair: 256 content bytes and 64 fragments.
-- Assumes nothing.
use Rattle.std.specs.Prelude.{ℕ, ltb}
use Rattle.format.specs.Lists.{pick}
use Rattle.sites.specs.declared.Line.{Line}
use Rattle.turns.specs.declared.Progress.{Progress}
use Rattle.turns.specs.declared.Paired.TheVariants.{Rejected}
use Rattle.turns.specs.declared.Turn.TheVariants.{Done}
use Rattle.turns.specs.declared.Plan.{Plan}
use Rattle.turns.specs.declared.Plan.TheVariants.{Leave, Place}

-- a refusal of the pair at a place
abbrev pub refused_pair : (number place : ℕ) → Plan
refused_pair n p = Leave (Done (Rejected n p))

-- 7 before 8
abbrev pub placed_of : Line → Progress → ℕ → Plan
placed_of l g p = pick (ltb 256 l.bytes) (refused_pair 7 p) (pick (ltb 64 l.fragments) (refused_pair 8 p) (Place l g))
