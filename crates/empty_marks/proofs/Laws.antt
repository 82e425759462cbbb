-- The laws of the marks of an empty pair, and what they tell of the text.
-- Assumes nothing.
use Prim.Native.Nat.{ℕ, ◌+◌, ◌-◌, ◌<◌, ◌≤◌}
use mathlib.Core.Path.{◌≡◌, refl, sym, ◌∙◌}
use mathlib.Core.Bool.{Bool, true, false, ◌&&◌}
use mathlib.Core.List.{List}
use native.Mathlib.Omega.{arith}
use lib.Dec.{eqb, leb}
use lib.ListN.{length, get_or}
use borrow.Author.Rules.{rules}
use borrow.Author.Tests.{le-leb, lt-leb, leb-true, eq-eqb, ne_eqb, eqb-true}
use Rattle.format.specs.Lists.{pick}
use Rattle.fields.specs.Due.{Due}
use Rattle.empty_marks.specs.Marks.{ends_in_place, zero_lead}

-- `ends_in_place`
module _ (s : List ℕ) (p : ℕ) where
  short : length s < p + 25 → false ≡ ends_in_place s p
  unfolding ends_in_place
  short h = rw (lt-leb (p + 25) (length s) h)

  pub ends-past : length s ≤ p → false ≡ ends_in_place s p
  ends-past h = short (omega arith)

  module _ (h : p < length s) where
    pub ends-short : length s - p < 25 → false ≡ ends_in_place s p
    ends-short k = short (omega arith)

    module _ (k : 25 ≤ length s - p) where
      pub ends-first : (get_or s (p + 10) 0 ≡ 10 → ⊥) → false ≡ ends_in_place s p
      unfolding ends_in_place
      ends-first e = rw (le-leb (p + 25) (length s) (omega arith), ne_eqb (get_or s (p + 10) 0) 10 e)

      module _ (e : get_or s (p + 10) 0 ≡ 10) where
        pub ends-last : eqb (get_or s (p + 24) 0) 10 ≡ ends_in_place s p
        unfolding ends_in_place
        ends-last = rw (le-leb (p + 25) (length s) (omega arith), eq-eqb (get_or s (p + 10) 0) 10 e)

  pub ends-parts : {r : Bool} → r ≡ ends_in_place s p → r ≡ true → (p + 25 ≤ length s) × (get_or s (p + 10) 0 ≡ 10) × (get_or s (p + 24) 0 ≡ 10)
  unfolding ends_in_place
  ends-parts e h = go (leb (p + 25) (length s)) (eqb (get_or s (p + 10) 0) 10) (eqb (get_or s (p + 24) 0) 10) refl refl refl (sym e ∙ h)
    where
      go : (x y z : Bool) → leb (p + 25) (length s) ≡ x → eqb (get_or s (p + 10) 0) 10 ≡ y → eqb (get_or s (p + 24) 0) 10 ≡ z
          → pick x (y && z) false ≡ true → (p + 25 ≤ length s) × (get_or s (p + 10) 0 ≡ 10) × (get_or s (p + 24) 0 ≡ 10)
      go true true true a b c w = (leb-true (p + 25) (length s) a, eqb-true (get_or s (p + 10) 0) 10 b, eqb-true (get_or s (p + 24) 0) 10 c)
      go true true false a b c w = absurd (let n : ◌≡◌ {A = ℕ} 0 1 = cc in omega arith)
      go true false z a b c w = absurd (let n : ◌≡◌ {A = ℕ} 0 1 = cc in omega arith)
      go false y z a b c w = absurd (let n : ◌≡◌ {A = ℕ} 0 1 = cc in omega arith)

pub ruleset ending = (rules, ends-past, ends-short, ends-first, ends-last)

-- `zero_lead`
pub zero-led : {s t u v w x y z : ℕ} {a b c d e f g h : Bool} → Due s 82 true a → Due t 32 a b → Due u 48 b c → Due v 48 c d
    → Due w 32 d e → Due x 48 e f → Due y 48 f g → Due z 32 g h → h ≡ zero_lead s t u v w x y z
unfolding zero_lead
zero-led wa wb wc wd we wf wg wh = rw (wh.answer, wg.answer, wf.answer, we.answer, wd.answer, wc.answer, wb.answer, wa.answer)

pub ruleset leading = (rules, zero-led)
