-- What the proofs of an area's home share: a law for each return, and the loop's invariant.
-- Assumes nothing.
use Prim.Native.Nat.{ℕ, zero, suc, ◌+◌, ◌-◌, ◌*◌, ◌≤◌, ◌<◌}
use mathlib.Core.Path.{◌≡◌, refl, sym, ap, ◌∙◌}
use mathlib.Core.Bool.{true, false}
use mathlib.Core.List.{List}
use mathlib.Core.Option.{none, some}
use native.Mathlib.Omega.{arith}
use mir.Val.{Fits}
use mir.Syntax.{w32, w64}
use lib.Dec.{leb}
use borrow.Author.Rules.{rules}
use borrow.Author.Tests.{le-leb, lt-leb}
use Rattle.format.specs.Lists.{pick}
use Rattle.format.specs.Tables.{kept, kept_size, rank}
use Rattle.format.specs.Placing.{extent}
use Rattle.laws.specs.Rows.{from, area_at, areas_in}
use Rattle.laws.proofs.Areas.{size_none, size-code, kept-size, pick-size, one_at_most, Ranking, rank-past, rank-start, rank-more, rank-here, Adding, add_start, add-more, add-end, extent-at}
use Rattle.homes.specs.declared.Home.{Home}
use Rattle.homes.specs.Home.{no_home, home_at}

-- `size_at`
pub ruleset sizing = (rules, size_none, size-code)

-- `one_if`
pub ruleset tests = (rules, le-leb, lt-leb)

-- an area that is not kept has no rank
rank-unkept : (areas : List ℕ) (k j n i : ℕ) → kept_size (area_at areas (j + i)) ≡ 0 → rank k (from (area_at areas) j n) i ≡ none
unfolding rank from
rank-unkept areas k j zero i h = refl
rank-unkept areas k j (suc n) zero h =
    let z : j + 0 ≡ j = omega arith in
    let u : kept (area_at areas j) ≡ false = sym (kept-size (area_at areas j)) ∙ ap (λ (m : ℕ). leb 1 m) (rw z at h) in
    rw u
rank-unkept areas k j (suc n) (suc i) h = let z : j + suc i ≡ suc j + i = omega arith in rank-unkept areas (k + pick (kept (area_at areas j)) 1 0) (suc j) n i (rw z at h)

-- ------------------------------------------------------------------ `kept_home`

pub record Homing (areas : List ℕ) (n i k s j : ℕ) : Type 0 where
  pub ranks : Ranking areas n i k j
  pub sums : Adding areas n i s j
  pub low : s ≤ j * 4294967295

pub home-start : (areas : List ℕ) (n i : ℕ) → Homing areas n i 0 0 0
home-start areas n i = record { ranks = rank-start areas n i; sums = add_start areas n i; low = omega arith }

module _ {areas : List ℕ} {n i k s j : ℕ} (w : Homing areas n i k s j) (h : i < n) where
  module _ (l : j < i) {z : ℕ} (e : z ≡ kept_size (area_at areas j)) (d : z < 4294967296) where
    module _ {x : ℕ} (ex : x ≡ pick (leb 1 z) 1 0) where
      pub home-rank : n ≤ 64 → Fits w32 (k + x)
      home-rank m = record { fits = omega (arith, w.ranks.few, ex ∙ pick-size (area_at areas j) 1 0 e, one_at_most (kept (area_at areas j))) }

      pub home-more : Homing areas n i (k + x) (s + z) (j + 1)
      home-more = record { ranks = rank-more w.ranks h l (ex ∙ pick-size (area_at areas j) 1 0 e); sums = add-more w.sums l (omega arith) e; low = omega (arith, w.low) }

    pub home-sum : n ≤ 64 → Fits w64 (s + z)
    home-sum m = record { fits = omega (arith, w.low) }

  pub home-next : n ≤ 64 → Fits w32 (k + 1)
  home-next m = record { fits = omega (arith, w.ranks.within, w.ranks.few) }

  pub home-kept : n ≤ 64 → i ≤ j → {z : ℕ} → z ≡ kept_size (area_at areas i) → 1 ≤ z → record { area = i; id = k + 1; start = s; size = z } ≡ home_at areas n i
  unfolding home_at areas_in extent
  home-kept m g {z} e f =
      let u : kept (area_at areas i) ≡ true = sym (kept-size (area_at areas i)) ∙ rw (← e) (le-leb 1 z f) in
      let y : 0 + i ≡ i = omega arith in
      let a : rank 0 (areas_in areas n) i ≡ some k = rank-here w.ranks h g ∙ rw u in
      let b : z ≡ extent (areas_in areas n) i = e ∙ sym (rw y at (extent-at areas 0 n i h)) in
      rw (le-leb n 64 m, a, ← b, ← add-end w.sums g)

pub ruleset homing = (rules, home-start, home-rank, home-more, home-sum, home-next, home-kept)

-- ------------------------------------------------------------------ `home_at`

module _ (areas : List ℕ) (n i : ℕ) {r : Home} (er : r ≡ no_home i) where
  pub home-many : 64 < n → r ≡ home_at areas n i
  unfolding home_at
  home-many h = er ∙ rw (lt-leb n 64 h)

  module _ (m : n ≤ 64) where
    pub home-past : n ≤ i → r ≡ home_at areas n i
    unfolding home_at areas_in
    home-past h = er ∙ rw (le-leb n 64 m, rank-past areas 0 0 n i h)

    pub home-unkept : {z : ℕ} → z ≡ kept_size (area_at areas i) → z ≡ 0 → r ≡ home_at areas n i
    unfolding home_at areas_in
    home-unkept e h = let y : 0 + i ≡ i = omega arith in er ∙ rw (le-leb n 64 m, rank-unkept areas 0 0 n i (rw y (sym e ∙ h)))

pub home-row : {n i : ℕ} → n ≤ 64 → i < n → i < 64
home-row m l = omega arith

pub some_size : (z : ℕ) → (z ≡ 0 → ⊥) → 1 ≤ z
some_size z f = omega (arith, f)

pub ruleset homes = (rules, home-many, home-past, home-unkept, home-row, some_size)
