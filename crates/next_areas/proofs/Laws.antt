-- The laws of the kept areas one after the other, and of stretches.
-- Assumes nothing.
use Prim.Native.Nat.{ℕ, zero, suc, ◌+◌, ◌-◌, ◌<◌, ◌≤◌}
use mathlib.Core.Path.{◌≡◌, refl, ap, sym, ◌∙◌}
use mathlib.Core.Bool.{Bool, true, false, not, ◌&&◌}
use mathlib.Core.List.{List, [], ◌∷◌}
use native.Mathlib.Omega.{arith}
use native.Mathlib.Numerals.{add-one}
use lib.ListN.{length, take, drop, drop_of_length-le, length-drop}
use lib.Seq.{take_all}
use lib.Dec.{leb, eqb}
use borrow.Author.Rules.{rules}
use Rattle.format.specs.Lists.{pick}
use Rattle.format.specs.Tables.{Area, code, kept}
use Rattle.laws.specs.Rows.{area_at, from}
use Rattle.row_parts.specs.Ranges.{passing}
use Rattle.row_parts.proofs.Ranges.{Passing, pass-end, pass-more, pass-start, pass-stop}
use Rattle.difference.specs.Module.{sizes}
use Rattle.next_areas.specs.Next.{next_kept}

-- `is_kept`
module _ (a : Area) {c : Bool} (e : c ≡ code a) where
  pub kept-is : c ≡ true → {z : ℕ} → z ≡ a.size → leb 1 z ≡ kept a
  unfolding kept
  kept-is f g = rw (← e, f, g)

  pub unkept-is : c ≡ false → false ≡ kept a
  unfolding kept
  unkept-is f = rw (← e, f)

pub ruleset keeps = (rules, kept-is, unkept-is)

-- `next_kept`
abbrev pub Nexting : (areas : List ℕ) (i n j : ℕ) → Type 0
Nexting areas i n j = Passing (λ (k : ℕ). not (kept (area_at areas k))) i n j

not-with : {b c : Bool} → b ≡ c → not b ≡ not c
not-with e = ap not e

module _ (areas : List ℕ) (n i : ℕ) where
  pub next_start : Nexting areas i n i
  next_start = pass-start (λ (k : ℕ). not (kept (area_at areas k))) i n

  module _ {j : ℕ} (w : Nexting areas i n j) where
    pub next-end : n ≤ j → j ≡ next_kept areas n i
    unfolding next_kept
    next-end h = pass-end w h

    pub next-stop : j < n → {b : Bool} → b ≡ kept (area_at areas j) → b ≡ true → j ≡ next_kept areas n i
    unfolding next_kept
    next-stop h e f = pass-stop w h (not-with e) (ap not f)

    pub next_more : j < n → {b : Bool} → b ≡ kept (area_at areas j) → b ≡ false → Nexting areas i n (j + 1)
    next_more h e f = pass-more w h (not-with e) (ap not f)

pub ruleset nexts = (rules, next_start, next-end, next-stop, next_more)

-- `stretch`
module _ (bytes : List ℕ) (start size : ℕ) where
  pub stretch-none : length bytes ≤ start → [] ≡ take size (drop start bytes)
  stretch-none h = rw (drop_of_length-le bytes h) (none size)
    where
      none : (n : ℕ) → ◌≡◌ {A = List ℕ} [] (take n [])
      none zero = refl
      none (suc n) = refl

  pub stretch-rest : length bytes - start < size → take (length bytes - start) (drop start bytes) ≡ take size (drop start bytes)
  stretch-rest h = take_all (length bytes - start) (drop start bytes) (omega (arith, length-drop start bytes)) ∙ sym (take_all size (drop start bytes) (omega (arith, length-drop start bytes)))

  pub stretch-in : take (start + size - start) (drop start bytes) ≡ take size (drop start bytes)
  stretch-in = let z : start + size - start ≡ size = omega arith in rw z

pub ruleset stretches = (rules, stretch-none, stretch-rest, stretch-in)

-- what the next kept area is: nothing kept stands before it
module _ (areas : List ℕ) where
  pub record IsNext (n i r : ℕ) : Type 0 where
    pub within : r ≤ i + (n - i)
    pub above : i ≤ r
    pub same : sizes (from (area_at areas) i (n - i)) ≡ sizes (from (area_at areas) r (n - r))
    pub here : r < n → kept (area_at areas r) ≡ true

  next-from : (n i m : ℕ) → n - i ≡ m → IsNext n i (passing (λ (j : ℕ). not (kept (area_at areas j))) i m)
  unfolding passing sizes from
  next-from n i zero e = record { within = omega arith; above = omega arith; same = refl; here = λ h. absurd (omega arith) }
  next-from n i (suc m) e = step (kept (area_at areas i)) refl (next-from n (suc i) m (omega arith))
    where
      step : (b : Bool) → kept (area_at areas i) ≡ b → IsNext n (suc i) (passing (λ (j : ℕ). not (kept (area_at areas j))) (suc i) m)
          → IsNext n i (pick (not b) (passing (λ (j : ℕ). not (kept (area_at areas j))) (suc i) m) i)
      step true f w = record { within = omega arith; above = omega arith; same = refl; here = λ h. f }
      step false f w = record { within = omega (arith, w.within); above = omega (arith, w.above); same = past ∙ w.same; here = w.here }
        where
          past : sizes (from (area_at areas) i (n - i)) ≡ sizes (from (area_at areas) (suc i) (n - suc i))
          past = let z : n - i ≡ suc (n - suc i) = omega arith in ap (λ (k : ℕ). sizes (from (area_at areas) i k)) z ∙ rw f

  pub next-is : (n i : ℕ) → IsNext n i (next_kept areas n i)
  unfolding next_kept
  next-is n i = next-from n i (n - i) refl
