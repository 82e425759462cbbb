-- With which reason a cut text is told: 1 or 4, if the whole's pairs are T and R lines and the cut lies before the whole's stop. What the whole
-- reads has no number that is too large, and a cut makes none. The T line of a T and P pair may hold anything.
-- Assumes nothing.
use Rattle.std.specs.Prelude.{ℕ, ◌≡◌, List, [], ◌∷◌, ◌⊎◌}
use Rattle.std.proofs.Math.Option.{some}
use Rattle.format.specs.Pairs.{Content, Pair, Relocation, placed}
use Rattle.format.specs.Records.{Taken}
use Rattle.halt.specs.Halt.{Halt, halt_of}

-- no digit, or anything else
abbrev pub Mild : ℕ → Type 0
Mild r = (r ≡ 1) ⊎ (r ≡ 4)

-- whatever is told of a text, its reason is one of these
abbrev pub ToldMildly : List ℕ → Type 0
ToldMildly text = (h : Halt) → halt_of text ≡ some h → Mild h.reason

-- a pair of a T and an R line
pub record IsPlaced (t : Taken Pair) : Type 0 where
  pub content : Content
  pub relocation : Relocation
  pub is-placed : t.body ≡ placed content relocation

abbrev pub AllPlaced : List (Taken Pair) → Type 0
AllPlaced [] = Unit {0}
AllPlaced (t ∷ ts) = IsPlaced t × AllPlaced ts
