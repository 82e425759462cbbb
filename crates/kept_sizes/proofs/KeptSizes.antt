-- The laws of the kept areas: how many there are, and their sizes in all.
-- Assumes nothing.
use Prim.Native.Nat.{ℕ, suc, ◌+◌, ◌*◌, ◌-◌, ◌<◌, ◌≤◌}
use mathlib.Core.Path.{◌≡◌, ap, ◌∙◌}
use mathlib.Core.List.{List}
use native.Mathlib.Omega.{arith}
use native.Mathlib.Numerals.{add-one}
use lib.Dec.{leb}
use mir.Val.{Fits}
use mir.Syntax.{w64}
use borrow.Author.Rules.{rules}
use borrow.Author.Tests.{le-leb, lt-leb}
use Rattle.format.specs.Lists.{pick}
use Rattle.format.specs.Tables.{kept_size, kept_count, total}
use Rattle.laws.specs.Rows.{from, area_at, areas_in}
use Rattle.laws.proofs.Areas.{kept-none, kept-code, pick-size, one_at_most}
use Rattle.kept_sizes.specs.Sizes.{SizesAre, few}
use Rattle.kept_sizes.specs.declared.Sizes.{Sizes}

-- `one_if`; for `kept_size` the laws of an area's size do
pub one-some : (z : ℕ) → 1 ≤ z → 1 ≡ pick {A = ℕ} (leb 1 z) 1 0
one-some z h = rw (le-leb 1 z h)

pub one_none : (z : ℕ) → z < 1 → 0 ≡ pick {A = ℕ} (leb 1 z) 1 0
one_none z h = rw (lt-leb 1 z h)

pub ruleset sizing = (rules, kept-none, kept-code, one-some, one_none)

-- `sizes_in`: what is left to add
pub record Summing (areas : List ℕ) (n some sum j : ℕ) : Type 0 where
  pub inside : j ≤ n
  pub total-rest : total (areas_in areas n) ≡ sum + total (from (area_at areas) j (n - j))
  pub kept-rest : kept_count (areas_in areas n) ≡ some + kept_count (from (area_at areas) j (n - j))
  pub total-low : sum ≤ j * 4294967296
  pub kept_low : some ≤ j

pub sum-start : (areas : List ℕ) (n : ℕ) → Summing areas n 0 0 0
unfolding areas_in
sum-start areas n = let z : n - 0 ≡ n = omega arith in record { inside = omega arith; total-rest = rw z (omega arith); kept-rest = rw z (omega arith); total-low = omega arith; kept_low = omega arith }

module _ {areas : List ℕ} {n some sum j : ℕ} (w : Summing areas n some sum j) (l : n ≤ 64) where
  pub sum-end : n ≤ j → SizesAre areas n (record { kept = some; total = sum })
  unfolding total kept_count from
  sum-end h =
      let z : n - j ≡ 0 = omega arith in
      let a : total (from (area_at areas) j (n - j)) ≡ 0 = rw z in
      let b : kept_count (from (area_at areas) j (n - j)) ≡ 0 = rw z in
      record { total-is = omega (arith, w.total-rest); kept-is = omega (arith, w.kept-rest); kept_low = omega (arith, w.kept_low, w.inside) }

  module _ (h : j < n) {z : ℕ} (e : z ≡ kept_size (area_at areas j)) (b : z < 4294967296) where
    sum-fits-now : sum + z ≤ suc j * 4294967296
    sum-fits-now = omega (arith, w.total-low)

    pub sum_fits : Fits w64 (sum + z)
    sum_fits = record { fits = omega (arith, w.total-low) }

    module _ {o : ℕ} (i : o ≡ pick (leb 1 z) 1 0) where
      one-low : o ≤ 1
      one-low = rw i (one_at_most (leb 1 z))

      pub kept-fits : Fits w64 (some + o)
      kept-fits = record { fits = omega (arith, w.kept_low, one-low) }

      next : n - j ≡ suc (n - suc j)
      next = omega arith

      next-total : total (from (area_at areas) j (n - j)) ≡ z + total (from (area_at areas) (suc j) (n - suc j))
      unfolding total from
      next-total = ap (λ (m : ℕ). total (from (area_at areas) j m)) next ∙ rw e

      next-kept : kept_count (from (area_at areas) j (n - j)) ≡ o + kept_count (from (area_at areas) (suc j) (n - suc j))
      unfolding kept_count from
      next-kept = ap (λ (m : ℕ). kept_count (from (area_at areas) j m)) next ∙ rw (i, pick-size {A = ℕ} (area_at areas j) 1 0 e)

      pub sum_more : Summing areas n (some + o) (sum + z) (j + 1)
      sum_more = record {
        inside = omega arith;
        total-rest = rw add-one (omega (arith, w.total-rest, next-total));
        kept-rest = rw add-one (omega (arith, w.kept-rest, next-kept));
        total-low = rw add-one sum-fits-now;
        kept_low = omega (arith, w.kept_low, one-low);
      }

pub ruleset summing = (rules, sum-start, sum-end, sum_fits, kept-fits, sum_more)

-- `sizes_of`
module _ {areas : List ℕ} (n : ℕ) {r : Sizes} where
  pub few-all : n ≤ 64 → SizesAre areas n r → SizesAre areas (few n) r
  unfolding few
  few-all h w = rw (le-leb n 64 h) w

  pub few-most : 64 < n → SizesAre areas 64 r → SizesAre areas (few n) r
  unfolding few
  few-most h w = rw (lt-leb n 64 h) w

-- for a caller with at most 64 areas
pub sizes-all : {areas : List ℕ} {n : ℕ} {r : Sizes} → SizesAre areas (few n) r → n ≤ 64 → SizesAre areas n r
unfolding few
sizes-all {areas} {n} w h = rw (le-leb n 64 h) at w

pub ruleset fewest = (rules, few-all, few-most)
