-- What is planned with a pair.
-- Assumes nothing.
use Rattle.std.specs.Prelude.{ℕ, suc, ◌+◌, ltb}
use Rattle.format.specs.Lists.{pick}
use Rattle.header.specs.Told.{more_of}
use Rattle.header.specs.declared.Form as text
use Rattle.sites.specs.declared.Line.{Line}
use Rattle.steps.specs.declared.pair.Body.TheVariants.{Skipped, Placed}
use Rattle.steps.specs.declared.pair.PairStep.{PairStep}
use Rattle.steps.specs.declared.pair.PairStep.TheVariants.{Ends, Takes}
use Rattle.pair_limits.specs.Limits.{placed_of}
use Rattle.turns.specs.Turns.{ending_of, after_of, stepped_of}
use Rattle.turns.specs.declared.Progress.{Progress}
use Rattle.turns.specs.declared.Turn.TheVariants.{Done}
use Rattle.turns.specs.declared.Plan.{Plan}
use Rattle.turns.specs.declared.Plan.TheVariants.{Leave}

-- one pair more, as far as can be counted
unfoldable pub one_more : ℕ → ℕ
one_more n = pick (ltb n 18446744073709551615) (n + 1) n

abbrev pub line_for : text.Form → (place address count area fragments : ℕ) → Line
line_for f p a n ar k =
    record { big = f.big; width = suc (more_of f.width); place = p; address = a; bytes = n; fragments = k; area = ar }

abbrev pub plan_of : PairStep → Progress → text.Form → Plan
plan_of Ends g f = Leave (Done (ending_of g))
plan_of (Takes Skipped end next on) g f = Leave (after_of (stepped_of g g.lines end next on))
plan_of (Takes (Placed a n ar k) end next on) g f =
    placed_of (line_for f g.next a n ar k) (stepped_of g (one_more g.lines) end next on) g.next
