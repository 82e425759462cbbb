-- The rows of areas keep the known bits of the masks, a pair at a time.
-- Assumes nothing.
use Prim.Native.Nat.{ℕ, zero, suc, ◌+◌, ◌-◌, ◌*◌, ◌≤◌, ◌<◌}
use mathlib.Core.Path.{◌≡◌, refl, sym, ap, ◌∙◌}
use mathlib.Core.List.{List, [], ◌∷◌}
use native.Mathlib.Omega.{arith}
use lib.ListN.{length, get_or, set, take, drop}
use lib.Seq.{take-set-le, take-set-lt, get_or-take}
use Rattle.format.specs.Tables.{Area, total, offset}
use Rattle.format.specs.Placing.{extent}
use Rattle.format.specs.Known.{ones_of, known_bits}
use Rattle.format.specs.Rows.{area_table}
use Rattle.laws.specs.Rows.{from, area_at, areas_in, known_at}
use Rattle.place.specs.Kept.{Kept}
use Rattle.laws.specs.Spared.{Spared}
use Rattle.laws.proofs.Known.{known-few, known-moves, the-column-is-the-sum, known-put, same-areas}

from-length : {A : Type 0} (g : ℕ → A) (i n : ℕ) → length (from g i n) ≡ n
unfolding from
from-length g i zero = refl
from-length g i (suc n) = ap suc (from-length g (suc i) n)

pub areas-length : (rows : List ℕ) (n : ℕ) → length (areas_in rows n) ≡ n
unfolding areas_in
areas-length rows n = from-length (area_at rows) 0 n

extent-low : (i : ℕ) (areas : List Area) → total (take 1 (drop i areas)) ≤ total areas
unfolding total
extent-low zero [] = omega arith
extent-low zero (a ∷ rest) = omega arith
extent-low (suc i) [] = omega arith
extent-low (suc i) (a ∷ rest) = omega (arith, extent-low i rest)

module _ {n : ℕ} {rows ms : List ℕ} (k : Kept n rows ms) where
  module _ (i : ℕ) (l : i < n) {ms' : List ℕ} (s : Spared (offset (areas_in rows n) i) (extent (areas_in rows n) i) ms ms') where
    -- the row has the known bits
    had : known_at rows i ≡ known_bits (areas_in rows n) i ms
    unfolding known_at
    had =
        sym (get_or-take (7 * n) rows (7 * i + 6) 0 (omega arith)) ∙ (ap (λ (r : List ℕ). get_or r (7 * i + 6) 0) k.table
        ∙ the-column-is-the-sum (areas_in rows n) ms i (omega (arith, areas-length rows n)))

    module _ {x : ℕ} (e : x ≡ (known_at rows i + ones_of ms') - ones_of ms) where
      has : x ≡ known_bits (areas_in rows n) i ms'
      has = omega (arith, had, known-moves (areas_in rows n) i ms ms' s)

      -- what they have moved to are at most 8 for each of 65,536 positions
      pub known-low : total (areas_in rows n) ≤ 65536 → ((j : ℕ) → get_or ms' j 0 < 256) → x ≤ 524288
      unfolding extent
      known-low h b = omega (arith, has, known-few (areas_in rows n) i ms' b, extent-low i (areas_in rows n))

      -- and the rows keep the known bits, where it is written into the row
      pub kept_on : Kept n (set rows (7 * i + 6) x) ms'
      kept_on = record {
        table =
            take-set-lt (7 * n) rows (7 * i + 6) x (omega arith)
            ∙ ((λ j. set (k.table j) (7 * i + 6) (has j))
            ∙ (known-put (areas_in rows n) ms ms' i (omega (arith, areas-length rows n)) s ∙ sym (ap (λ (zs : List Area). area_table zs ms') (same-areas rows i x n))));
      }

  -- a number behind them changes nothing
  pub kept-past : (i v : ℕ) → n ≤ i → Kept n (set rows (7 * i + 6) v) ms
  kept-past i v h = record {
    table = take-set-le (7 * n) rows (7 * i + 6) v (omega arith) ∙ (k.table ∙ sym (ap (λ (zs : List Area). area_table zs ms) (same-areas rows i v n)));
  }
