-- Two and three bytes of two digits each, joined: what the definition answers where they stand.
-- Assumes nothing.
use Prim.Native.Nat.{ℕ, ◌+◌, ◌*◌, ◌-◌, ◌<◌, ◌≤◌, ◌^◌}
use mathlib.Core.Path.{◌≡◌, refl, sym}
use mathlib.Core.Bool.{Bool}
use mathlib.Core.List.{List}
use native.Mathlib.Omega.{arith}
use lib.ListN.{length, get_or}
use mir.Val.{Fits}
use mir.Syntax.{w64}
use borrow.Author.Rules.{rules}
use Rattle.std.specs.Prelude.{Result, Ok, Err}
use Rattle.format.specs.Bytes.{worth}
use Rattle.format.specs.Number.{byte, joined}
use Rattle.format.specs.Got.{is}
use Rattle.numbers.specs.Told.{told}
use Rattle.digits.specs.Capitals.{is_capital, capitals}
use Rattle.quick_numbers.specs.Short.{Two}
use Rattle.joined_bytes.specs.Joins.{Joins}
use Rattle.joined_bytes.specs.Steps.{join_step}
use Rattle.numbers.specs.declared.Halt.{Halt}
use Rattle.numbers.specs.declared.Read.{Read}
use Rattle.joined_bytes.proofs.Laws.Joined.{Joining, joined-start, joined-more, joined_end}
use Rattle.quick_numbers.proofs.Laws.{two_is, spaced-is}

-- `first_byte`
pub two-zeros : (a b : ℕ) → a ≡ 48 → b ≡ 48 → 0 ≡ capitals a b
unfolding capitals is_capital worth
two-zeros a b e f = rw (e, f)

pub ruleset firsts = (rules, two-zeros)

-- the first byte, and one more behind a space
module _ (radix : ℕ) (big : Bool) (s : List ℕ) (at : ℕ) (f : radix ≡ 16) where
  first-joins : (n : ℕ) {a : ℕ} → n ≤ 3 → Two s at a → a ≤ 255 → Joining radix big n s at a 256 (at + 2) n
  first-joins n {a} k w l =
      let e : is a (at + 2) ≡ byte radix s at = rw f (sym (w.got (omega arith))) in
      joined-start radix big s at {a = Ok (record { value = a; next = at + 2 })} e refl k

  more-joins : {n v scale p k b : ℕ} → Joining radix big n s at v scale p k → 0 < k → p + 3 ≤ length s → get_or s p 0 ≡ 32 → (q : ℕ) → q ≡ p + 1 → Two s q b → b ≤ 255
      → {x : ℕ} → x ≡ join_step big v scale b → x < scale * 256 → Joining radix big n s at x (scale * 256) (p + 3) (k - 1)
  more-joins {p = p} {b = b} j o h e q z w l g m =
      let y = spaced-is radix s p f (omega arith) (omega arith) e (rw z at w) in
      joined-more j o {b = Ok (record { value = b; next = p + 3 })} (sym (y.got (omega arith))) refl g m

-- `short_two`, `short_three`
module _ (radix : ℕ) (big : Bool) (s : List ℕ) (at : ℕ) where
  pub joins-none : (n next limit : ℕ) → Joins radix big n s at next limit limit
  joins-none n next limit = record { inside = λ l. absurd (omega arith); got = λ l. absurd (omega arith) }

  module _ (f : radix ≡ 16) (h : at < length s) (e : get_or s (at + 2) 0 ≡ 32)
      {a b c v : ℕ} (x : a ≡ capitals (get_or s at 0) (get_or s (at + 1) 0)) (la : a ≤ 255) (y : b ≡ capitals (get_or s (at + 3) 0) (get_or s (at + 4) 0)) (lb : b ≤ 255) (g : v ≡ join_step big a 256 b) (m : v < 65536) where
    two-joined : (n : ℕ) → 0 < n → n ≤ 3 → 5 ≤ length s - at → c ≡ get_or s (at + 5) 0 → c < 48 → Joining radix big n s at v 65536 (at + 5) (n - 1)
    two-joined n o i k p q =
        let z : at + 2 + 3 ≡ at + 5 = omega arith in
        let z₁ : at + 3 + 1 ≡ at + 4 = omega arith in
        let z₂ : at + 3 + 2 ≡ at + 5 = omega arith in
        let w = first-joins radix big s at f n i (two_is s at (omega arith) x (sym e) (omega arith)) la in
        rw z at (more-joins radix big s at f w o (omega arith) e (at + 3) (omega arith) (two_is s (at + 3) {c = c} (omega arith) (rw z₁ y) (rw z₂ p) q) lb g m)

    pub joins-two : 5 ≤ length s - at → c ≡ get_or s (at + 5) 0 → c < 48 → Joins radix big 1 s at (at + 5) 65536 v
    joins-two k p q = record { inside = λ l. omega arith; got = λ l. sym (joined_end (two-joined 1 (omega arith) (omega arith) k p q) (omega arith)) }

  pub joins-three : radix ≡ 16 → at < length s → get_or s (at + 2) 0 ≡ 32
      → {a b c d v w : ℕ} → a ≡ capitals (get_or s at 0) (get_or s (at + 1) 0) → a ≤ 255 → b ≡ capitals (get_or s (at + 3) 0) (get_or s (at + 4) 0) → b ≤ 255 → v ≡ join_step big a 256 b → v < 65536
      → 8 ≤ length s - at → get_or s (at + 5) 0 ≡ 32 → c ≡ capitals (get_or s (at + 6) 0) (get_or s (at + 7) 0) → c ≤ 255 → d ≡ get_or s (at + 8) 0 → d < 48
      → w ≡ join_step big v 65536 c → w < 16777216 → Joins radix big 2 s at (at + 8) 16777216 w
  joins-three f h e {c = c} {d = d} x la y lb g m k i u lc o r p q =
      let z : at + 5 + 3 ≡ at + 8 = omega arith in
      let z₁ : at + 6 + 1 ≡ at + 7 = omega arith in
      let z₂ : at + 6 + 2 ≡ at + 8 = omega arith in
      let t = two_is s (at + 6) {v = c} {c = d} (omega arith) (rw z₁ u) (rw z₂ o) r in
      let j = more-joins radix big s at f (two-joined f h e x la y lb g m 2 (omega arith) (omega arith) (omega arith) (sym i) (omega arith)) (omega arith) (omega arith) i (at + 6) (omega arith) t lc p q in
      record { inside = λ l. omega arith; got = λ l. sym (rw z at (joined_end j (omega arith))) }

pub ruleset joins = (rules, joins-none, joins-two, joins-three)

-- `two_of`, `three_of`, `four_of`
module _ (radix : ℕ) (big : Bool) (n : ℕ) (s : List ℕ) (at next : ℕ) {limit v : ℕ} (w : Joins radix big n s at next limit v) (h : v < limit) where
  pub joins-is : is v next ≡ joined radix big n s at
  joins-is = sym (w.got h)

  pub joins-fits : length s < 2 ^ 64 → Fits w64 next
  joins-fits k = record { fits = omega (arith, w.inside h) }

-- an answer of the long way
module _ (radix : ℕ) (big : Bool) (n : ℕ) (s : List ℕ) (at : ℕ) {a : Result (Read ℕ) Halt} (e : told a ≡ joined radix big n s at) where
  pub long-is : {r : Read ℕ} → a ≡ Ok r → is r.value r.next ≡ joined radix big n s at
  long-is g = rw g at e

  pub long-stops : {h : Halt} → a ≡ Err h → told (Err h) ≡ joined radix big n s at
  long-stops g = rw g at e

pub ruleset lengths = (rules, joins-is, joins-fits, long-is, long-stops)
