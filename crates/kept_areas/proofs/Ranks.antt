-- The laws of whether an area is kept, and of its id.
-- Assumes nothing.
use Prim.Native.Nat.{ℕ, ◌+◌, ◌<◌, ◌≤◌, ◌^◌}
use mathlib.Core.Path.{◌≡◌, refl, ap, sym, ◌∙◌}
use mathlib.Core.Bool.{Bool, true, false}
use mathlib.Core.List.{List}
use native.Mathlib.Omega.{arith}
use mathlib.Core.Option.{some, none}
use lib.Dec.{leb}
use mir.Val.{Fits, bool_byte}
use mir.Syntax.{w64}
use borrow.Author.Rules.{rules}
use Rattle.std.specs.Prelude.{Option, None}
use Rattle.std.specs.Bool.{then_some}
use Rattle.format.specs.Lists.{pick}
use Rattle.format.specs.Tables.{Area, kept, kept_size, rank}
use Rattle.laws.specs.Rows.{area_at, areas_in}
use Rattle.laws.proofs.Areas.{kept-none, kept-code, kept-size, one_at_most, Ranking, rank-past, rank-start, rank-more, rank-here}
use Rattle.kept_areas.specs.Told.{told_id}

-- `kept_size`, `is_kept`
pub is-kept : (x : Area) {z : ℕ} → z ≡ kept_size x → leb 1 z ≡ kept x
is-kept x e = ap (leb 1) e ∙ kept-size x

pub ruleset keeps = (rules, kept-none, kept-code, is-kept)

-- `area_id`
pub id-past : (s : List ℕ) (n i : ℕ) → n ≤ i → told_id None ≡ rank 0 (areas_in s n) i
unfolding areas_in
id-past s n i h = sym (rank-past s 0 0 n i h)

one-bit : (b : Bool) → bool_byte b ≡ pick b 1 0
one-bit true = refl
one-bit false = refl

told-if : (b : Bool) (k : ℕ) → told_id (then_some b k) ≡ pick b (some k) none
told-if true k = refl
told-if false k = refl

module _ {s : List ℕ} {n i k j : ℕ} (w : Ranking s n i k j) (l : i < n) {b : Bool} where
  module _ (h : j < i) (e : b ≡ kept (area_at s j)) {o : ℕ} (f : o ≡ bool_byte b) where
    counted : o ≡ pick (kept (area_at s j)) 1 0
    counted = f ∙ (one-bit b ∙ ap (λ (c : Bool). pick c 1 0) e)

    pub id-fits : i < 2 ^ 64 → Fits w64 (k + o)
    id-fits g = record { fits = omega (arith, w.few, counted, one_at_most (kept (area_at s j))) }

    pub id-more : Ranking s n i (k + o) (j + 1)
    id-more = rank-more w l h counted

  pub id-is : i ≤ j → b ≡ kept (area_at s i) → told_id (then_some b k) ≡ rank 0 (areas_in s n) i
  id-is h e = told-if b k ∙ (ap (λ (c : Bool). pick c (some k) none) e ∙ sym (rank-here w l h))

  pub id-told : i ≤ j → b ≡ kept (area_at s i) → {r : Option ℕ} → r ≡ then_some b k → told_id r ≡ rank 0 (areas_in s n) i
  id-told h e f = ap told_id f ∙ id-is h e

pub ruleset ids = (rules, id-past, rank-start, id-fits, id-more, id-told)
