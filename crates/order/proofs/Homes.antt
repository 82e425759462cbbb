-- The area of a pair and its id among the kept ones: one id, one area.
-- Assumes nothing.
use Prim.Native.Nat.{ℕ, zero, suc, ◌+◌, ◌≤◌, ◌<◌}
use mathlib.Core.Path.{◌≡◌, refl, sym, ap}
use mathlib.Core.Bool.{Bool, true, false}
use mathlib.Core.List.{List, [], ◌∷◌}
use mathlib.Core.Option.{Option, none, some}
use native.Mathlib.Omega.{arith}
use Rattle.format.specs.Lists.{pick}
use Rattle.format.specs.Pairs.{Pair, placed, skipped}
use Rattle.format.specs.Tables.{Area, Tables, kept, kept_count, rank}
use Rattle.order.specs.Texts.{area_of}

-- its id, if it is kept
abbrev pub home : Tables → Pair → Option ℕ
home t skipped = none
home t (placed c r) = rank 0 t.areas r.area

pub no-rank : {C : Type 0} (m : ℕ) → ◌≡◌ {A = Option ℕ} none (some m) → C
no-rank m e = let z : ◌≡◌ {A = ℕ} 0 1 = cc in let y : ⊥ = omega arith in absurd y

-- an id is at least the number of kept areas before, and below that of all
rank-low : (k : ℕ) (areas : List Area) (i m : ℕ) → rank k areas i ≡ some m → k ≤ m
unfolding rank
rank-low k [] i m e = no-rank m e
rank-low k (a ∷ areas) zero m e = go (kept a) e
  where
    go : (t : Bool) → pick t (some k) none ≡ some m → k ≤ m
    go true f = let same : k ≡ m = cc in omega arith
    go false f = no-rank m f
rank-low k (a ∷ areas) (suc i) m e = omega (arith, rank-low (k + pick (kept a) 1 0) areas i m e)

rank_below : (k : ℕ) (areas : List Area) (i m : ℕ) → rank k areas i ≡ some m → m < k + kept_count areas
unfolding rank kept_count
rank_below k [] i m e = no-rank m e
rank_below k (a ∷ areas) zero m e = go (kept a) e
  where
    go : (t : Bool) → pick t (some k) none ≡ some m → m < k + (pick t 1 0 + kept_count areas)
    go true f = let same : k ≡ m = cc in omega arith
    go false f = no-rank m f
rank_below k (a ∷ areas) (suc i) m e = omega (arith, rank_below (k + pick (kept a) 1 0) areas i m e)

-- no two areas have one id
rank-first : {C : Type 0} (k : ℕ) (a : Area) (areas : List Area) (j m : ℕ) → pick (kept a) (some k) none ≡ some m → rank (k + pick (kept a) 1 0) areas j ≡ some m → C
rank-first {C} k a areas j m e f = go (kept a) e f
  where
    go : (t : Bool) → pick t (some k) none ≡ some m → rank (k + pick t 1 0) areas j ≡ some m → C
    go true p q = let same : k ≡ m = cc in let y : ⊥ = omega (arith, rank-low (k + 1) areas j m q) in absurd y
    go false p q = no-rank m p

rank-one : (k : ℕ) (areas : List Area) (i j m : ℕ) → rank k areas i ≡ some m → rank k areas j ≡ some m → i ≡ j
unfolding rank
rank-one k [] i j m e f = no-rank m e
rank-one k (a ∷ areas) zero zero m e f = refl
rank-one k (a ∷ areas) zero (suc j) m e f = rank-first k a areas j m e f
rank-one k (a ∷ areas) (suc i) zero m e f = rank-first k a areas i m f e
rank-one k (a ∷ areas) (suc i) (suc j) m e f = ap suc (rank-one (k + pick (kept a) 1 0) areas i j m e f)

-- one id, one area; and one area, one id
pub one-area : (t : Tables) (x y : Pair) (h : ℕ) → home t x ≡ some h → home t y ≡ some h → area_of x ≡ area_of y
one-area t skipped y h e f = no-rank h e
one-area t (placed c r) skipped h e f = no-rank h f
one-area t (placed c r) (placed d u) h e f = ap (λ (n : ℕ). some n) (rank-one 0 t.areas r.area u.area h e f)

pub one-home : (t : Tables) (x y : Pair) → area_of x ≡ area_of y → home t x ≡ home t y
one-home t skipped skipped e = refl
one-home t skipped (placed d u) e = no-rank u.area e
one-home t (placed c r) skipped e = no-rank r.area (sym e)
one-home t (placed c r) (placed d u) e = let same : r.area ≡ u.area = cc in ap (λ (n : ℕ). rank 0 t.areas n) same

pub home_below : (t : Tables) (b : Pair) (h : ℕ) → home t b ≡ some h → h < kept_count t.areas
home_below t skipped h e = no-rank h e
home_below t (placed c r) h e = omega (arith, rank_below 0 t.areas r.area h e)
