-- No second answer fits the contract of grouping: neither another answer nor another number in the lent buffer.
-- Assumes nothing.
use Prim.Native.Nat.{ℕ}
use mathlib.Core.Path.{◌≡◌, refl, sym, ◌∙◌}
use mathlib.Core.List.{List}
use native.Mathlib.Omega.{arith}
use Rattle.std.specs.Prelude.{Option, Some, None}
use Rattle.grouped.specs.Group.{told, Regrouped}

-- `by_area`
pub one-grouping : (k n : ℕ) (rows out : List ℕ) (r q : Option ℕ) (out₁ out₂ : List ℕ) → Regrouped k n rows out r out₁ → Regrouped k n rows out q out₂ → (r ≡ q) × (out₁ ≡ out₂)
one-grouping k n rows out r q out₁ out₂ a b = (injective r q (a.says ∙ sym b.says), a.stored ∙ sym b.stored)
  where
    injective : (x y : Option ℕ) → told x ≡ told y → x ≡ y
    injective (Some m) (Some p) e = let h : m ≡ p = cc in rw h
    injective (Some m) None e = absurd (let z : ◌≡◌ {A = ℕ} 0 1 = cc in omega arith)
    injective None (Some p) e = absurd (let z : ◌≡◌ {A = ℕ} 0 1 = cc in omega arith)
    injective None None e = refl
