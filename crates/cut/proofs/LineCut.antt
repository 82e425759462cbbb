-- A line that lies, with its line end, inside a cut is the same line in the cut text.
-- Assumes nothing.
use Prim.Native.Nat.{ℕ, suc, zero, ◌-◌, ◌≤◌}
use mathlib.Core.Path.{◌≡◌, refl, sym, ap}
use mathlib.Core.Bool.{Bool, true, false, ◌&&◌}
use mathlib.Core.List.{List, [], ◌∷◌}
use native.Mathlib.Omega.{arith}
use lib.ListN.{length, drop, take}
use lib.Seq.{take-nil, take-take}
use lib.Dec.{eqb}
use Rattle.format.specs.Lists.{pick, run}
use Rattle.format.specs.Lines.{end_length}
use Rattle.format.specs.Number.{past}
use Rattle.laws.specs.Places.{end_at, inner, line_at, line_end, next_line}

-- a run that ends inside a cut
pub run_take : (t : ℕ → Bool) (xs : List ℕ) (m : ℕ) → length (run t xs) ≤ m → run t (take m xs) ≡ run t xs
unfolding run
run_take t [] m h = ap (run t) (take-nil m)
run_take t (x ∷ xs) zero h = go (t x) h
  where
    go : (b : Bool) → length (pick b (x ∷ run t xs) []) ≤ 0 → [] ≡ pick b (x ∷ run t xs) []
    go true h = let z : ⊥ = omega arith in absurd z
    go false h = refl
run_take t (x ∷ xs) (suc m) h = go (t x) h (run_take t xs m)
  where
    go : (b : Bool) → length (pick b (x ∷ run t xs) []) ≤ suc m → (length (run t xs) ≤ m → run t (take m xs) ≡ run t xs) → pick b (x ∷ run t (take m xs)) [] ≡ pick b (x ∷ run t xs) []
    go true h f = ap (λ (l : List ℕ). x ∷ l) (f (omega arith))
    go false h f = refl

-- a line end that lies inside a cut
end_take : (xs : List ℕ) (m : ℕ) → end_length xs ≤ m → end_length (take m xs) ≡ end_length xs
unfolding end_length
end_take [] m h = ap end_length (take-nil m)
end_take (a ∷ []) zero h = go (eqb a 10) h
  where
    go : (t : Bool) → ◌≤◌ (pick t 1 0) 0 → ◌≡◌ {A = ℕ} 0 (pick t 1 0)
    go true h = omega arith
    go false h = refl
end_take (a ∷ []) (suc m) h = ap (λ (l : List ℕ). end_length (a ∷ l)) (take-nil m)
end_take (a ∷ b ∷ r) zero h = omega arith
end_take (a ∷ b ∷ r) (suc zero) h = go (eqb a 10) (eqb a 13 && eqb b 10) h
  where
    go : (t u : Bool) → pick t 1 (pick u 2 0) ≤ 1 → ◌≡◌ {A = ℕ} (pick t 1 0) (pick t 1 (pick u 2 0))
    go true u h = refl
    go false true h = omega arith
    go false false h = refl
end_take (a ∷ b ∷ r) (suc (suc m)) h = refl

-- what stands behind a place, in a cut
pub drop_of_take : (k n : ℕ) (xs : List ℕ) → k ≤ n → drop k (take n xs) ≡ take (n - k) (drop k xs)
drop_of_take zero n xs h = let e : n - 0 ≡ n = omega arith in rw e
drop_of_take (suc k) zero xs h = let z : ⊥ = omega arith in absurd z
drop_of_take (suc k) (suc n) [] h = sym (take-nil (suc n - suc k))
drop_of_take (suc k) (suc n) (x ∷ xs) h = let e : suc n - suc k ≡ n - k = omega arith in rw e (drop_of_take k n xs (omega arith))

-- a line that lies, with its line end, inside a cut
module _ (text : List ℕ) (p n : ℕ) (h : next_line text p ≤ n) where
  pub from-ends : (p ≤ line_end text p) × (line_end text p ≤ next_line text p)
  unfolding next_line line_end past
  from-ends = (omega arith, omega arith)

  pub end-cut : line_end (take n text) p ≡ line_end text p
  unfolding line_end past
  end-cut =
      let k = from-ends in
      let d : drop p (take n text) ≡ take (n - p) (drop p text) = drop_of_take p n text (omega arith) in
      let e : run inner (take (n - p) (drop p text)) ≡ run inner (drop p text) = run_take inner (drop p text) (n - p) (omega arith) in
      rw (d, e)

  pub ends-cut : end_at (take n text) p ≡ end_at text p
  unfolding end_at next_line
  ends-cut =
      let k = from-ends in
      let q : ℕ = line_end text p in
      let d : drop q (take n text) ≡ take (n - q) (drop q text) = drop_of_take q n text (omega arith) in
      rw (end-cut, d) (end_take (drop q text) (n - q) (omega arith))

  pub next-cut : next_line (take n text) p ≡ next_line text p
  unfolding next_line
  next-cut = rw (end-cut, ends-cut)

  pub line-cut : line_at (take n text) p ≡ line_at text p
  unfolding line_at
  line-cut =
      let k = from-ends in
      let d : drop p (take n text) ≡ take (n - p) (drop p text) = drop_of_take p n text (omega arith) in
      let e : take (line_end text p - p) (take (n - p) (drop p text)) ≡ take (line_end text p - p) (drop p text) = take-take (line_end text p - p) (n - p) (drop p text) (omega arith) in
      rw (end-cut, ends-cut, d, e)
