-- The laws of equal names.
-- Assumes nothing.
use Prim.Native.Nat.{ℕ}
use mathlib.Core.Path.{◌≡◌, refl, ap, sym}
use mathlib.Core.Bool.{Bool, true, false, ◌&&◌}
use mathlib.Core.List.{List, [], ◌∷◌}
use lib.Dec.{eqb}
use lib.ListN.{length, get_or}
use lib.Pointwise.{pointwise}
use borrow.Author.Rules.{rules}
use Rattle.format.specs.Lists.{pick}
use Rattle.difference.specs.Module.{same_numbers}
use Rattle.difference.proofs.Lists.{same-eq}

and-with : (b : Bool) {c d : Bool} → c ≡ d → (b && c) ≡ pick b d false
and-with true e = e
and-with false e = refl

-- `same_name`
pub same-each : (a b : List ℕ) → pointwise eqb a b ≡ same_numbers a b
unfolding same_numbers
same-each [] [] = refl
same-each [] (y ∷ ys) = refl
same-each (x ∷ xs) [] = refl
same-each (x ∷ xs) (y ∷ ys) = and-with (eqb x y) (same-each xs ys)

-- names that differ, by their lengths or at a byte
pub not-same : (a b : List ℕ) → (a ≡ b → ⊥) → false ≡ same_numbers a b
not-same a b f = go (same_numbers a b) refl
  where
    go : (t : Bool) → same_numbers a b ≡ t → false ≡ same_numbers a b
    go true e = absurd (f (same-eq a b e))
    go false e = sym e

pub name-length : (a b : List ℕ) → (length a ≡ length b → ⊥) → false ≡ same_numbers a b
name-length a b h = not-same a b (λ e. h (ap (λ (l : List ℕ). length l) e))

pub name-byte : (a b : List ℕ) (i : ℕ) → (get_or a i 0 ≡ get_or b i 0 → ⊥) → false ≡ same_numbers a b
name-byte a b i h = not-same a b (λ e. h (ap (λ (l : List ℕ). get_or l i 0) e))

pub ruleset names = (rules, same-each, name-length, name-byte)
