-- What the proofs of the count share: full masks, and the known bits that a count comes to.
-- Assumes nothing.
use Prim.Native.Nat.{ℕ, zero, suc, ◌+◌, ◌-◌, ◌≤◌, ◌<◌}
use mathlib.Core.Path.{◌≡◌, refl, sym, ap, ◌∙◌}
use mathlib.Core.List.{List, [], ◌∷◌, ◌++◌}
use native.Mathlib.Numerals.{add-one}
use native.Mathlib.Omega.{arith}
use mir.Val.{Fits}
use mir.Syntax.{w64}
use lib.ListN.{length, replicate, length-replicate}
use lib.Seq.{sets}
use borrow.Author.Rules.{rules}
use Rattle.format.specs.Known.{ones_of}
use Rattle.cells.proofs.Laws.{sets-append}
use Rattle.image_byte.specs.Count.{Counted, Marked}
use Rattle.image_byte.proofs.CountLaws.{counted_none, counted-more, marked-on}
use Rattle.images.specs.Count.{Filled}
use Rattle.images.specs.Image.{moved}

-- `fill_masks`
pub record Filling (to k count : ℕ) (ms os : List ℕ) (c i : ℕ) : Type 0 where
  pub within : i ≤ k
  pub stored : os ≡ sets ms to (replicate i 255)
  pub counted : Counted i count ms c os
  pub long : length os ≡ length ms

pub fill_start : (to k count : ℕ) (ms : List ℕ) → Filling to k count ms ms count 0
fill_start to k count ms = record { within = omega arith; stored = refl; counted = counted_none count ms; long = refl }

one-behind : (i v : ℕ) → replicate (suc i) v ≡ replicate i v ++ v ∷ []
one-behind zero v = refl
one-behind (suc i) v = ap (◌∷◌ v) (one-behind i v)

module _ {to k count : ℕ} {ms os : List ℕ} {c i : ℕ} (w : Filling to k count ms os c i) where
  pub fill-low : i < k → k ≤ 256 → 2080 ≤ count → 8 ≤ c
  fill-low h f l = omega (arith, w.counted.low)

  pub fill_more : i < k → k ≤ 256 → 2080 ≤ count → {x : ℕ} {os' : List ℕ} → Marked (to + i) 255 8 os x os' → length os' ≡ length os → Filling to k count ms os' ((c + x) - 8) (i + 1)
  fill_more h f g d l = record {
    within = omega arith;
    stored = d.stored ∙ rw (w.stored, add-one, one-behind i 255) (sym (sets-append ms to (replicate i 255) (255 ∷ []) ∙ rw (length-replicate {A = ℕ} i 255)));
    counted = counted-more w.counted (marked-on c (fill-low h f g) d).counted;
    long = l ∙ w.long;
  }

  module _ (h : i < k) (f : k ≤ 256) {x : ℕ} {os' : List ℕ} (d : Marked (to + i) 255 8 os x os') where
    pub fill-high : count ≤ 4294969375 → Fits w64 (c + x)
    fill-high l = record { fits = omega (arith, w.counted.high, d.counted.high) }

    pub fill-down : 2080 ≤ count → 8 ≤ c + x
    fill-down l = omega (arith, fill-low h f l)

  pub fill_end : k ≤ i → Filled to k count ms c os
  fill_end h = let e : i ≡ k = omega (arith, w.within) in record { stored = rw e at w.stored; counted = rw e at w.counted }

pub fill-place : {to k i : ℕ} → to ≤ 65536 → k ≤ 256 → i < k → Fits w64 (to + i)
fill-place h l m = record { fits = omega arith }

pub ruleset counting = (rules, fill_start, fill_more, fill-high, fill-down, fill_end, fill-place)

-- the known bits that a count comes to, and those of masks that have not changed
pub known-then : (known : ℕ) (ms ms' : List ℕ) {count : ℕ} (k : ℕ) {r : ℕ} → count ≡ known + 2080 → k + ones_of ms ≡ count + ones_of ms' → r ≡ k - 2080 → r ≡ moved known ms ms'
unfolding moved
known-then known ms ms' k e f g = omega arith

pub known-still : (known : ℕ) (ms : List ℕ) {r : ℕ} → r ≡ known → r ≡ moved known ms ms
unfolding moved
known-still known ms e = omega arith
