-- Bytes joined by their places are the definition's `join` of a list.
-- Assumes nothing.
use Prim.Native.Nat.{ℕ, zero, suc, min, ◌%◌, ◌*◌, ◌+◌, ◌-◌, ◌<◌, ◌≤◌, ◌^◌}
use mathlib.Core.Path.{◌≡◌, refl, ap, ◌∙◌}
use mathlib.Core.Bool.{Bool, false, true}
use mathlib.Core.List.{List, [], ◌∷◌}
use native.Mathlib.Nat.{pow-suc, pow-le-pow_right}
use native.Mathlib.Numerals.{add-one, unary_clauses}
use native.Mathlib.Omega.{arith}
use mir.Syntax.{w32}
use mir.Val.{Fits}
use lib.Dec.{lit<, lit≤}
use lib.ListN.{get_or, length, take}
use borrow.Author.Rules.{rules}
use Rattle.format.specs.Lists.{pick}
use Rattle.format.specs.Number as the
use Rattle.format.specs.Number.{join}
use Rattle.joining.proofs.Shift.{moved_up}

-- the number whose digits to the base 256 are f 0, f 1, .., f (k - 1), the first the highest
abbrev pub horner : (ℕ → ℕ) → ℕ → ℕ
horner f zero = 0
horner f (suc k) = horner f k * 256 + f k

-- the i-th digit from the highest of the first n bytes
abbrev pub digit : Bool → ℕ → List ℕ → ℕ → ℕ
digit big n xs i = get_or xs (pick big i (n - 1 - i)) 0

-- the number so far, of the first i of k digits
pub record Joining (big : Bool) (xs : List ℕ) (k v i : ℕ) : Type 0 where
  pub room : k ≤ length xs
  pub four : k ≤ 4
  pub within : i ≤ k
  pub number : v ≡ horner (digit big k xs) i
  pub small : v < 256 ^ i

pub joins-none : (n : ℕ) {k : ℕ} (big : Bool) (xs : List ℕ) → k ≡ min (min n 4) (length xs) → Joining big xs k 0 0
joins-none n big xs e = record { room = omega arith; four = omega arith; within = omega arith; number = refl; small = lit< tt }

module _ {big : Bool} {xs : List ℕ} {k v i : ℕ} (j : Joining big xs k v i) where
  below : i < k → v < 2 ^ 24
  below h = let three : i ≤ 3 = omega arith in omega (arith, pow-le-pow_right {n = 256} (lit< tt) three)

  moved : i < k → v * 256 % 4294967296 ≡ v * 256
  moved h = moved_up 32 8 (lit≤ tt) (below h)

  pub sum_fits : {w : ℕ} → i < k → w < 256 → Fits w32 (v * 256 % 4294967296 + w)
  sum_fits h b = record { fits = omega (arith, below h, moved h) }

  pub joins-one-more : {at w : ℕ} → i < k → at ≡ pick big i (k - 1 - i) → w ≡ get_or xs at 0 → w < 256 → Joining big xs k (v * 256 % 4294967296 + w) (i + 1)
  joins-one-more h e f b = record {
    room = j.room;
    four = j.four;
    within = omega arith;
    number = rw (add-one, moved h) (cc);
    small = rw (add-one, pow-suc, moved h) (omega arith);
  }

-- digits from the highest on, and a list
join-0 : (big : Bool) (xs : List ℕ) → horner (digit big 0 xs) 0 ≡ join big []
unfolding join the.horner the.little
join-0 true xs = refl
join-0 false xs = refl

join-1 : (big : Bool) (a : ℕ) (xs : List ℕ) → horner (digit big 1 (a ∷ xs)) 1 ≡ join big (a ∷ [])
unfolding join the.horner the.little
join-1 true a xs = omega arith
join-1 false a xs = omega arith

join-2 : (big : Bool) (a b : ℕ) (xs : List ℕ) → horner (digit big 2 (a ∷ b ∷ xs)) 2 ≡ join big (a ∷ b ∷ [])
unfolding join the.horner the.little
join-2 true a b xs = omega arith
join-2 false a b xs = omega arith

join-3 : (big : Bool) (a b c : ℕ) (xs : List ℕ) → horner (digit big 3 (a ∷ b ∷ c ∷ xs)) 3 ≡ join big (a ∷ b ∷ c ∷ [])
unfolding join the.horner the.little
join-3 true a b c xs = omega arith
join-3 false a b c xs = omega arith

join-4 : (big : Bool) (a b c d : ℕ) (xs : List ℕ) → horner (digit big 4 (a ∷ b ∷ c ∷ d ∷ xs)) 4 ≡ join big (a ∷ b ∷ c ∷ d ∷ [])
unfolding join the.horner the.little
join-4 true a b c d xs = omega arith
join-4 false a b c d xs = omega arith

join_is : (big : Bool) (k : ℕ) (xs : List ℕ) → k ≤ 4 → k ≤ length xs → horner (digit big k xs) k ≡ join big (take k xs)
join_is big zero xs h l = join-0 big xs
join_is big (suc k) [] h l = absurd (omega arith)
join_is big (suc zero) (a ∷ xs) h l = join-1 big a xs
join_is big (suc (suc k)) (a ∷ []) h l = absurd (omega arith)
join_is big (suc (suc zero)) (a ∷ b ∷ xs) h l = join-2 big a b xs
join_is big (suc (suc (suc k))) (a ∷ b ∷ []) h l = absurd (omega arith)
join_is big (suc (suc (suc zero))) (a ∷ b ∷ c ∷ xs) h l = join-3 big a b c xs
join_is big (suc (suc (suc (suc k)))) (a ∷ b ∷ c ∷ []) h l = absurd (omega arith)
join_is big (suc (suc (suc (suc zero)))) (a ∷ b ∷ c ∷ d ∷ xs) h l = join-4 big a b c d xs
join_is big (suc (suc (suc (suc (suc k))))) (a ∷ b ∷ c ∷ d ∷ xs) h l = absurd (omega arith)

-- no more is taken than there is
take_min : (j : ℕ) (xs : List ℕ) → take (min j (length xs)) xs ≡ take j xs
take_min zero xs = simp unary_clauses
take_min (suc j) [] = simp unary_clauses
take_min (suc j) (x ∷ xs) = simp unary_clauses (ap (◌∷◌ x) (take_min j xs))

pub joins-all : (n : ℕ) {big : Bool} {xs : List ℕ} {k v i : ℕ} → Joining big xs k v i → k ≤ i → k ≡ min (min n 4) (length xs) → v ≡ join big (take (min n 4) xs)
joins-all n {big} {xs} {k} {v} {i} j h e =
    let all : i ≡ k = omega arith in
    (rw all at j.number) ∙ (join_is big k xs j.four j.room ∙ (ap (λ (z : ℕ). join big (take z xs)) e ∙ ap (join big) (take_min (min n 4) xs)))

pub ruleset joining = (rules, joins-none, sum_fits, joins-one-more, joins-all)
