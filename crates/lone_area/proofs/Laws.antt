-- The rows of areas that one side only has.
-- Assumes nothing.
use Prim.Native.Nat.{ℕ}
use mathlib.Core.Path.{◌≡◌}
use mathlib.Core.Bool.{Bool}
use mathlib.Core.List.{List, [], ◌∷◌}
use borrow.Author.Rules.{rules}
use Rattle.difference.specs.Changes.{area, newer, older}
use Rattle.difference.specs.Rows.{change_numbers}
use Rattle.change_rows.specs.Walk.{Put}

-- `only_old`, `only_new`
module _ {w : Bool} {list : List ℕ} {n id r : ℕ} {after : List ℕ} where
  module _ {a b c d e : ℕ} where
    pub old_row : Put w list n (5 ∷ id ∷ a ∷ b ∷ c ∷ d ∷ e ∷ 0 ∷ []) r after → a ≡ 0 → b ≡ 0 → c ≡ 0 → d ≡ 0 → e ≡ 0 → Put w list n (change_numbers (area older id)) r after
    unfolding change_numbers
    old_row h p q s t u = rw (p, q, s, t, u) at h

    pub new_row : Put w list n (6 ∷ id ∷ a ∷ b ∷ c ∷ d ∷ e ∷ 0 ∷ []) r after → a ≡ 0 → b ≡ 0 → c ≡ 0 → d ≡ 0 → e ≡ 0 → Put w list n (change_numbers (area newer id)) r after
    unfolding change_numbers
    new_row h p q s t u = rw (p, q, s, t, u) at h

pub ruleset lones = (rules, old_row, new_row)
