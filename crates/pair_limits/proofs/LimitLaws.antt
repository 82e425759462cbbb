-- The laws of a pair's limits: one for each answer.
-- Assumes nothing.
use Prim.Native.Nat.{ℕ, ◌<◌, ◌≤◌}
use mathlib.Core.Path.{◌≡◌}
use borrow.Author.Rules.{rules}
use borrow.Author.Tests.{lt-ltb, le-ltb}
use Rattle.sites.specs.declared.Line.{Line}
use Rattle.turns.specs.declared.Progress.{Progress}
use Rattle.turns.specs.declared.Plan.{Plan}
use Rattle.turns.specs.declared.Plan.TheVariants.{Place}
use Rattle.pair_limits.specs.Limits.{refused_pair, placed_of}

module _ (l : Line) (g : Progress) (p : ℕ) where
  pub placed-7 : 256 < l.bytes → {r : Plan} → r ≡ refused_pair 7 p → r ≡ placed_of l g p
  placed-7 h e = rw (e, lt-ltb 256 l.bytes h)

  module _ (h : l.bytes ≤ 256) where
    pub placed-8 : 64 < l.fragments → {r : Plan} → r ≡ refused_pair 8 p → r ≡ placed_of l g p
    placed-8 i e = rw (e, le-ltb 256 l.bytes h, lt-ltb 64 l.fragments i)

    pub placed-fits : l.fragments ≤ 64 → Place l g ≡ placed_of l g p
    placed-fits i = rw (le-ltb 256 l.bytes h, le-ltb 64 l.fragments i)

pub ruleset limiting = (rules, placed-7, placed-8, placed-fits)
