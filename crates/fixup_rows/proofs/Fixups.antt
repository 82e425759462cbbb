-- The laws of what a fixup's row says, and of whether it lies in an area.
-- Assumes nothing.
use Prim.Native.Nat.{ℕ, ◌+◌, ◌*◌}
use mathlib.Core.Path.{◌≡◌, ap, ◌∙◌}
use mathlib.Core.Bool.{Bool}
use mathlib.Core.List.{List}
use native.Mathlib.Nat.{add-zero}
use lib.ListN.{get_or}
use lib.Dec.{eqb}
use borrow.Author.Rules.{rules}
use Rattle.laws.specs.Rows.{fixup_from, fixup_row}
use Rattle.row_parts.specs.Parts.{part_of}
use Rattle.row_parts.specs.Ranges.{same_as}
use Rattle.fixup_rows.specs.Fixups.{told_fixup, name_of}
use Rattle.fixup_rows.specs.Ranges.{fixup_in}
use Rattle.fixup_rows.specs.declared.fixup.Fixup.{Fixup}

-- a fixup's row
module _ (s : List ℕ) (i : ℕ) where
  pub fixup-name : (t : List ℕ) {r : List ℕ} {a n x y : ℕ} → x ≡ get_or s (9 * i + 5) 0 → a ≡ x → y ≡ get_or s (9 * i + 6) 0 → n ≡ y → r ≡ part_of t a n → r ≡ name_of t (fixup_row s i)
  unfolding fixup_row fixup_from
  fixup-name t {r} {a} {n} e f g h k =
      k ∙ (ap (λ (m : ℕ). part_of t m n) (f ∙ e) ∙ ap (λ (m : ℕ). part_of t (get_or s (9 * i + 5) 0) m) (h ∙ g))

  pub fixup-told : {a b c d e f g h k : ℕ} →
      a ≡ get_or s (9 * i + 0) 0 → b ≡ get_or s (9 * i + 1) 0 → c ≡ get_or s (9 * i + 2) 0 → d ≡ get_or s (9 * i + 3) 0 → e ≡ get_or s (9 * i + 4) 0 →
      f ≡ get_or s (9 * i + 5) 0 → g ≡ get_or s (9 * i + 6) 0 → h ≡ get_or s (9 * i + 7) 0 → k ≡ get_or s (9 * i + 8) 0 →
      told_fixup (record { home = a; position = b; size = c; mode = d; outside = e; what = f; length = g; value = h; number = k }) ≡ fixup_row s i
  unfolding fixup_row fixup_from
  fixup-told p0 p1 p2 p3 p4 p5 p6 p7 p8 =
      let z : 9 * i + 0 ≡ 9 * i = add-zero (9 * i) in
      λ j. record {
        home = (p0 ∙ ap (λ (m : ℕ). get_or s m 0) z) j;
        position = p1 j;
        size = p2 j;
        mode = p3 j;
        refers = record { outside = p4 j; what = p5 j; length = p6 j; value = p7 j };
        number = p8 j;
      }

pub ruleset fixups = (rules, fixup-name, fixup-told)

-- `fixup_in`
module _ (rows : List ℕ) (i : ℕ) (same : Bool) (j : ℕ) {r : Bool} where
  pub fixup-is : {h k : ℕ} → h ≡ get_or rows (9 * j + 0) 0 → k ≡ h → r ≡ same_as (eqb k i) same → r ≡ fixup_in rows i same j
  unfolding fixup_in
  fixup-is e f g = let z : 9 * j + 0 ≡ 9 * j = add-zero (9 * j) in g ∙ ap (λ (b : ℕ). same_as (eqb b i) same) (f ∙ (e ∙ ap (λ (m : ℕ). get_or rows m 0) z))

pub ruleset homes = (rules, fixup-is)
