-- The laws of an area's image.
-- Assumes nothing.
use Prim.Native.Nat.{ℕ, zero, suc, ◌+◌, ◌-◌, ◌<◌, ◌≤◌, ◌^◌}
use mathlib.Core.Path.{◌≡◌, refl, ap, sym, ◌∙◌}
use mathlib.Core.Bool.{Bool, true, false}
use mathlib.Core.List.{List, []}
use native.Mathlib.Omega.{arith}
use native.Mathlib.Nat.{zero-add, le_of_lt}
use lib.ListN.{length, take, drop}
use lib.Dec.{leb}
use mir.Val.{Fits}
use mir.Syntax.{w64}
use borrow.Author.Rules.{rules}
use Rattle.format.specs.Lists.{pick}
use Rattle.format.specs.Tables.{Area, kept_size, total, offset}
use Rattle.format.specs.Placing.{extent}
use Rattle.laws.specs.Rows.{from, area_at, areas_in}
use Rattle.laws.proofs.Areas.{Adding, add_start, add-more, add_low, add-end, extent-at}
use Rattle.row_parts.specs.Parts.{part_of}
use Rattle.row_parts.proofs.Cells.{part-past}
use Rattle.kept_areas.specs.Images.{image_in}

pub record Offsetting (s image : List ℕ) (n i start j : ℕ) : Type 0 where
  pub sums : Adding s n i start j
  pub inside : start ≤ length image

extent-past : (g : ℕ → Area) (j n i : ℕ) → n ≤ i → drop i (from g j n) ≡ []
unfolding from
extent-past g j zero zero h = refl
extent-past g j zero (suc i) h = refl
extent-past g j (suc n) zero h = absurd (omega arith)
extent-past g j (suc n) (suc i) h = extent-past g (suc j) n i (omega arith)

empty-part : (image : List ℕ) (a : ℕ) → [] ≡ part_of image a 0
unfolding part_of
empty-part image a = go (leb a (length image)) (leb 0 (length image - a))
  where
    go : (b c : Bool) → ◌≡◌ {A = List ℕ} [] (pick b (pick c [] []) [])
    go true true = refl
    go true false = refl
    go false c = refl

pub image-past : (s image : List ℕ) (n i : ℕ) → n ≤ i → [] ≡ image_in image (areas_in s n) i
unfolding image_in extent areas_in total
image-past s image n i h = empty-part image (offset (from (area_at s) 0 n) i) ∙ ap (λ (l : List Area). part_of image (offset (from (area_at s) 0 n) i) (total (take 1 l))) (sym (extent-past (area_at s) 0 n i h))

pub image-start : (s image : List ℕ) (n i : ℕ) → Offsetting s image n i 0 0
image-start s image n i = record { sums = add_start s n i; inside = omega arith }

module _ {s image : List ℕ} {n i start j : ℕ} (w : Offsetting s image n i start j) (l : i < n) {z : ℕ} where
  module _ (h : j < i) (e : z ≡ kept_size (area_at s j)) where
    pub image-out : length image - start < z → [] ≡ image_in image (areas_in s n) i
    unfolding image_in
    image-out f = part-past image (offset (areas_in s n) i) (extent (areas_in s n) i) (omega (arith, add_low w.sums h (le_of_lt l) e, w.inside))

    pub image-fits : z ≤ length image - start → length image < 2 ^ 64 → Fits w64 (start + z)
    image-fits f b = record { fits = omega (arith, w.inside) }

    pub image-more : z ≤ length image - start → Offsetting s image n i (start + z) (j + 1)
    image-more f = record { sums = add-more w.sums h (le_of_lt l) e; inside = omega (arith, w.inside) }

  pub image-end : i ≤ j → z ≡ kept_size (area_at s i) → {r : List ℕ} → r ≡ part_of image start z → r ≡ image_in image (areas_in s n) i
  unfolding image_in extent areas_in
  image-end h e f =
      let x : total (take 1 (drop i (from (area_at s) 0 n))) ≡ z = extent-at s 0 n i l ∙ (ap (λ (m : ℕ). kept_size (area_at s m)) (zero-add i) ∙ sym e) in
      f ∙ (ap (λ (m : ℕ). part_of image m z) (add-end w.sums h) ∙ ap (λ (m : ℕ). part_of image (offset (areas_in s n) i) m) (sym x))

pub image-sub : {s image : List ℕ} {n i start j : ℕ} → Offsetting s image n i start j → start ≤ length image
image-sub w = w.inside

pub ruleset images = (rules, image-past, image-start, image-out, image-fits, image-more, image-sub, image-end)
