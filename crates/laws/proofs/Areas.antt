-- Areas by their rows: an area's size, its rank among the kept ones, and the sum of the images before it, a row at a time.
-- Assumes nothing.
use Prim.Native.Nat.{ℕ, zero, suc, ◌+◌, ◌*◌, ◌-◌, ◌/◌, ◌%◌, ◌≤◌, ◌<◌}
use mathlib.Core.Path.{◌≡◌, refl, ap, ◌∙◌}
use mathlib.Core.Bool.{Bool, true, false, ◌&&◌}
use mathlib.Core.List.{List, ◌∷◌}
use mathlib.Core.Option.{none, some}
use native.Mathlib.Nat.{add-zero}
use native.Mathlib.Numerals.{add-one}
use native.Mathlib.Omega.{arith}
use lib.Dec.{leb}
use lib.ListN.{get_or, take, drop}
use borrow.Author.Tests.{le-leb, eq-eqb, ne_eqb}
use Rattle.format.specs.Lists.{pick}
use Rattle.format.specs.Mode.{bit}
use Rattle.format.specs.Tables.{Area, code, kept, kept_size, total, rank, offset}
use Rattle.laws.specs.Rows.{from, area_at, areas_in}
pub use Rattle.laws.proofs.Ones.{one_at_most}

-- ------------------------------------------------------------------ an area's size

size-zero : (x : ℕ) → x ≡ pick (leb 1 x) x 0
size-zero zero = refl
size-zero (suc x) = rw (le-leb 1 (suc x) (omega arith))

-- by the size and the flags that its row has
module _ (areas : List ℕ) (j : ℕ) {z f : ℕ} (ez : z ≡ get_or areas (7 * j + 2) 0) (ef : f ≡ get_or areas (7 * j + 3) 0) where
  pub size_none : (f / 32 % 2 ≡ 1 → ⊥) → 0 ≡ kept_size (area_at areas j)
  unfolding kept_size kept code area_at bit
  size_none h = rw (← ef, ne_eqb (f / 32 % 2) 1 h)

  pub size-code : f / 32 % 2 ≡ 1 → {y : ℕ} → y ≡ z → y ≡ kept_size (area_at areas j)
  unfolding kept_size kept code area_at bit
  size-code h e = rw (← ef, ← ez, ← e, eq-eqb (f / 32 % 2) 1 h) (size-zero _)

-- by whether it is code
module _ (a : Area) {c : Bool} (e : c ≡ code a) where
  pub kept-none : c ≡ false → 0 ≡ kept_size a
  unfolding kept_size kept
  kept-none h = rw (← e, h)

  pub kept-code : c ≡ true → {y z : ℕ} → y ≡ a.size → z ≡ y → z ≡ kept_size a
  unfolding kept_size kept
  kept-code h i j = rw (← e, h, j, i) (size-zero a.size)

-- it is kept if it has one
pub kept-size : (a : Area) → leb 1 (kept_size a) ≡ kept a
unfolding kept_size kept
kept-size a = go (code a) (leb 1 a.size) a.size refl
  where
    go : (b c : Bool) (x : ℕ) → leb 1 x ≡ c → leb 1 (pick (b && c) x 0) ≡ (b && c)
    go true true x e = e
    go true false x e = refl
    go false c x e = refl

pub pick-size : {A : Type 0} (a : Area) (x y : A) {z : ℕ} → z ≡ kept_size a → pick (leb 1 z) x y ≡ pick (kept a) x y
pick-size a x y e = ap (λ (b : Bool). pick b x y) (ap (λ (n : ℕ). leb 1 n) e ∙ kept-size a)

-- ------------------------------------------------------------------ its rank among the kept ones

pub rank-past : (areas : List ℕ) (k j n i : ℕ) → n ≤ i → rank k (from (area_at areas) j n) i ≡ none
unfolding rank from
rank-past areas k j zero i h = refl
rank-past areas k j (suc n) zero h = absurd (omega arith)
rank-past areas k j (suc n) (suc i) h = rank-past areas (k + pick (kept (area_at areas j)) 1 0) (suc j) n i (omega arith)

-- of the first j areas k are kept
pub record Ranking (areas : List ℕ) (n i k j : ℕ) : Type 0 where
  pub within : j ≤ i
  pub few : k ≤ j
  pub rest : rank 0 (areas_in areas n) i ≡ rank k (from (area_at areas) j (n - j)) (i - j)

pub rank-start : (areas : List ℕ) (n i : ℕ) → Ranking areas n i 0 0
unfolding areas_in
rank-start areas n i = record {
  within = omega arith;
  few = omega arith;
  rest = let e : n - 0 ≡ n = omega arith in let f : i - 0 ≡ i = omega arith in rw (e, f);
}

module _ {areas : List ℕ} {n i k j : ℕ} (w : Ranking areas n i k j) (h : i < n) where
  pub rank-more : j < i → {x : ℕ} → x ≡ pick (kept (area_at areas j)) 1 0 → Ranking areas n i (k + x) (j + 1)
  unfolding rank from
  rank-more l e = record {
    within = omega arith;
    few = omega (arith, w.few, one_at_most (kept (area_at areas j)));
    rest =
        let p : n - j ≡ suc (n - suc j) = omega arith in
        let q : i - j ≡ suc (i - suc j) = omega arith in
        rw (add-one, e) (w.rest ∙ (ap (λ (y : ℕ). rank k (from (area_at areas) j y) (i - j)) p ∙ ap (λ (y : ℕ). rank k (area_at areas j ∷ from (area_at areas) (suc j) (n - suc j)) y) q));
  }

  pub rank-here : i ≤ j → rank 0 (areas_in areas n) i ≡ pick (kept (area_at areas i)) (some k) none
  unfolding rank from
  rank-here g =
      let s : j ≡ i = omega (arith, w.within) in
      let p : n - i ≡ suc (n - suc i) = omega arith in
      let q : i - i ≡ 0 = omega arith in
      (rw s at w.rest) ∙ rw (q, p)

-- ------------------------------------------------------------------ the images before its own

-- s is the sum of those of the first j areas
pub record Adding (areas : List ℕ) (n i s j : ℕ) : Type 0 where
  pub inside : j ≤ i
  pub rest : offset (areas_in areas n) i ≡ s + total (take (i - j) (from (area_at areas) j (n - j)))

pub add_start : (areas : List ℕ) (n i : ℕ) → Adding areas n i 0 0
unfolding offset areas_in
add_start areas n i = let y : i - 0 ≡ i = omega arith in let z : n - 0 ≡ n = omega arith in record { inside = omega arith; rest = rw (y, z) (omega arith) }

module _ {areas : List ℕ} {n i s j : ℕ} (w : Adding areas n i s j) where
  pub add-end : i ≤ j → s ≡ offset (areas_in areas n) i
  unfolding total
  add-end h =
      let z : i - j ≡ 0 = omega arith in
      let e : total (take (i - j) (from (area_at areas) j (n - j))) ≡ 0 = rw z in
      omega (arith, w.rest)

  module _ (h : j < i) (l : i ≤ n) {x : ℕ} (e : x ≡ kept_size (area_at areas j)) where
    next : total (take (i - j) (from (area_at areas) j (n - j))) ≡ x + total (take (i - suc j) (from (area_at areas) (suc j) (n - suc j)))
    unfolding total from
    next =
        let y : i - j ≡ suc (i - suc j) = omega arith in
        let z : n - j ≡ suc (n - suc j) = omega arith in
        ap (λ (m : ℕ). total (take m (from (area_at areas) j (n - j)))) y ∙ (ap (λ (m : ℕ). total (take (suc (i - suc j)) (from (area_at areas) j m))) z ∙ rw e)

    pub add-more : Adding areas n i (s + x) (j + 1)
    add-more = record { inside = omega arith; rest = rw add-one (omega (arith, w.rest, next)) }

    -- no sum so far is above the place of the image
    pub add_low : s + x ≤ offset (areas_in areas n) i
    add_low = omega (arith, w.rest, next)

-- an area's image is as long as its row says
pub extent-at : (areas : List ℕ) (j n i : ℕ) → i < n → total (take 1 (drop i (from (area_at areas) j n))) ≡ kept_size (area_at areas (j + i))
unfolding total from
extent-at areas j zero i h = absurd (omega arith)
extent-at areas j (suc n) zero h = rw (add-zero, add-zero)
extent-at areas j (suc n) (suc i) h = let z : j + suc i ≡ suc j + i = omega arith in rw z (extent-at areas (suc j) n i (omega arith))
