-- What the two returns need: the kind says which text.
-- Assumes nothing.
use Prim.Native.Nat.{ℕ}
use mathlib.Core.Path.{◌≡◌}
use mathlib.Core.List.{List}
use borrow.Author.Rules.{rules}
use borrow.Author.Tests.{eq-eqb, ne_eqb}
use Rattle.laws.specs.Rows.{symbol_at}
use Rattle.row_parts.specs.Parts.{name_in}
use Rattle.changed_name.specs.Name.{listed_name}

module _ (older newer olds news : List ℕ) (kind i j : ℕ) {r : List ℕ} where
  pub name-old : kind ≡ 8 → r ≡ name_in older (symbol_at olds i).name → r ≡ listed_name older newer olds news kind i j
  unfolding listed_name
  name-old e h = rw (eq-eqb kind 8 e) h

  pub name_new : (kind ≡ 8 → ⊥) → {t : List ℕ} → t ≡ newer → r ≡ name_in t (symbol_at news j).name → r ≡ listed_name older newer olds news kind i j
  unfolding listed_name
  name_new e f h = rw (ne_eqb kind 8 e, ← f) h

pub ruleset naming = (rules, name-old, name_new)
