-- The laws of what an area's row says.
-- Assumes nothing.
use Prim.Native.Nat.{ℕ, ◌+◌, ◌*◌, ◌/◌, ◌%◌, ◌≤◌, ◌<◌}
use mathlib.Core.Path.{◌≡◌, sym, ap, ◌∙◌}
use mathlib.Core.List.{List}
use native.Mathlib.Nat.{add-zero}
use native.Mathlib.Omega.{arith}
use lib.ListN.{length, get_or, set}
use lib.Seq.{set_out}
use lib.Dec.{eqb}
use borrow.Author.Rules.{rules}
use borrow.Author.Tests.{eq-eqb, ne_eqb, le-leb, lt-leb}
use Rattle.format.specs.Mode.{bit}
use Rattle.format.specs.Tables.{code, absolute, base}
use Rattle.laws.specs.Rows.{area_at, known_at}
use Rattle.row_parts.specs.Parts.{part_of, name_in}
use Rattle.area_rows.specs.Known.{narrowed}

module _ (s : List ℕ) (i : ℕ) where
  pub area-name : (t : List ℕ) {r : List ℕ} {a n x y : ℕ} → x ≡ get_or s (7 * i + 0) 0 → a ≡ x → y ≡ get_or s (7 * i + 1) 0 → n ≡ y → r ≡ part_of t a n → r ≡ name_in t (area_at s i).name
  unfolding area_at
  area-name t {r} {a} {n} e f g h k =
      let z : 7 * i + 0 ≡ 7 * i = add-zero (7 * i) in
      k ∙ (ap (λ (m : ℕ). part_of t m n) (f ∙ (e ∙ ap (λ (m : ℕ). get_or s m 0) z)) ∙ ap (λ (m : ℕ). part_of t (get_or s (7 * i) 0) m) (h ∙ g))

  pub area-size : {x : ℕ} → x ≡ get_or s (7 * i + 2) 0 → x ≡ (area_at s i).size
  unfolding area_at
  area-size e = e

  module _ {x : ℕ} (e : x ≡ get_or s (7 * i + 3) 0) where
    pub area-code : eqb (x / 32 % 2) 1 ≡ code (area_at s i)
    unfolding area_at code bit
    area-code = rw e

    pub area-absolute : eqb (x / 8 % 2) 1 ≡ absolute (area_at s i)
    unfolding area_at absolute bit
    area-absolute = rw e

  module _ {g a : ℕ} (e : g ≡ get_or s (7 * i + 4) 0) (f : a ≡ get_or s (7 * i + 5) 0) where
    pub area-given : g ≡ 1 → a ≡ base (area_at s i)
    unfolding area_at base
    area-given h = rw (← e, ← f, eq-eqb g 1 h)

    pub area-absent : (g ≡ 1 → ⊥) → 0 ≡ base (area_at s i)
    unfolding area_at base
    area-absent h = rw (← e, ← f, ne_eqb g 1 h)

  pub area-known : {x : ℕ} → x ≡ get_or s (7 * i + 6) 0 → x ≡ known_at s i
  unfolding known_at
  area-known e = e

  pub known_past : (known : ℕ) → length s / 7 < i → s ≡ set s (7 * i + 6) (narrowed known)
  known_past known h = sym (set_out s (7 * i + 6) (narrowed known) (omega arith))

  pub known-put : (known : ℕ) {x : ℕ} → x ≡ narrowed known → {s' : List ℕ} → s' ≡ set s (7 * i + 6) x → s' ≡ set s (7 * i + 6) (narrowed known)
  known-put known e f = rw (← e) f

-- `narrow`
pub narrow-all : (n : ℕ) → n ≤ 4294967295 → n ≡ narrowed n
unfolding narrowed
narrow-all n h = rw (le-leb n 4294967295 h)

pub narrow-most : (n : ℕ) → 4294967295 < n → 4294967295 ≡ narrowed n
unfolding narrowed
narrow-most n h = rw (lt-leb n 4294967295 h)

pub ruleset areas = (rules, area-name, area-size, area-code, area-absolute, area-given, area-absent, area-known, known_past, known-put, narrow-all, narrow-most)
