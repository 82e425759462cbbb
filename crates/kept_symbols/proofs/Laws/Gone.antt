-- The first change that is not a symbol gone.
-- Assumes nothing.
use Prim.Native.Nat.{ℕ, ◌*◌, ◌+◌, ◌/◌, ◌<◌}
use mathlib.Core.Path.{◌≡◌, ap, refl, sym, ◌∙◌}
use mathlib.Core.Bool.{not}
use mathlib.Core.List.{List}
use native.Mathlib.Omega.{arith}
use lib.ListN.{get_or, length, get_or-eq_default}
use borrow.Author.Rules.{rules}
use borrow.Author.Tests.{eq-eqb, ne_eqb}
use Rattle.alike.specs.Looked.{first_of}
use Rattle.alike.proofs.Looked.{Looking, look-end, look-found, look-more, look-start}
use Rattle.kept_symbols.specs.Staying.{other_change}

-- `kind`, `other_change`
pub eight-past : (s : List ℕ) (i : ℕ) → length s / 8 < i → 0 ≡ get_or s (8 * i) 0
eight-past s i h = sym (get_or-eq_default s 0 (omega arith))

module _ (list : List ℕ) {n i : ℕ} (w : Looking (other_change list) n i) (h : i < n) {k : ℕ} (e : k ≡ get_or list (8 * i) 0) where
  pub other-found : (k ≡ 8 → ⊥) → i ≡ first_of (other_change list) n
  unfolding other_change
  other-found f = look-found w h refl (ap not (ne_eqb (get_or list (8 * i) 0) 8 (λ d. f (e ∙ d))))

  pub other-more : k ≡ 8 → Looking (other_change list) n (i + 1)
  unfolding other_change
  other-more f = look-more w h refl (ap not (eq-eqb (get_or list (8 * i) 0) 8 (sym e ∙ f)))

pub ruleset others = (rules, eight-past, look-start, look-end, other-found, other-more)
