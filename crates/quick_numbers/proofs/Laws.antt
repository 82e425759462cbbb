-- A 0 that stands alone, and bytes of two digits of radix 16: what the definition answers where they stand.
-- Assumes nothing.
use Prim.Native.Nat.{ℕ, ◌+◌, ◌*◌, ◌-◌, ◌<◌, ◌≤◌, ◌^◌}
use mathlib.Core.Path.{◌≡◌, refl, sym}
use mathlib.Core.Bool.{Bool, true, false, false≢true}
use mathlib.Core.List.{List}
use native.Mathlib.Omega.{arith}
use lib.Dec.{ltb}
use lib.ListN.{length, get_or}
use mir.Val.{Fits}
use mir.Syntax.{w64}
use borrow.Author.Rules.{rules}
use borrow.Author.Tests.{lt-ltb, ne_eqb, ltb-true}
use Rattle.format.specs.Bytes.{worth}
use Rattle.format.specs.Number.{valued, number, byte, next_byte}
use Rattle.format.specs.Got.{is}
use Rattle.digits.specs.Capitals.{capitals}
use Rattle.digits.proofs.Laws.{worth-low, worth-ten, capitals-are}
use Rattle.scan.proofs.Laws.Tests.{by_order}
use Rattle.scan.proofs.Laws.Kinds.{one-space}
use Rattle.numbers.proofs.Laws.Numbers.{Digits, digits-start, digits_more, digits-stop, digits-end, next-2}
use Rattle.quick_numbers.specs.Short.{Zero, Two, Short, Spaced}

-- `lone_zero`
module _ (radix : ℕ) (s : List ℕ) (at : ℕ) where
  pub zero-no : Zero radix s at false
  zero-no = record { inside = λ e. absurd (false≢true e); got = λ e. absurd (false≢true e) }

  module _ (h : at < length s) (e : get_or s at 0 ≡ 48) where
    zero-read : Digits 16 s at 0 (at + 1)
    zero-read =
        let a : 0 ≡ worth (get_or s at 0) = rw e (worth-ten 48 (omega arith) (omega arith)) in
        digits_more (digits-start 16 s at) a h (omega arith) {x = 0} (omega arith)

    zero-valued : is 0 (at + 1) ≡ valued at (at + 1) 0
    zero-valued = rw (ne_eqb (at + 1) at (λ q. omega arith))

    zero_number : get_or s (at + 1) 0 < 48 → is 0 (at + 1) ≡ number 16 s at
    zero_number m =
        by_order (at + 1) (length s)
        (λ o. digits-stop zero-read (worth-low (get_or s (at + 1) 0) m) o (omega arith) zero-valued)
        (λ o. digits-end zero-read o zero-valued)

    pub zero_is : radix ≡ 16 → {c : ℕ} → c ≡ get_or s (at + 1) 0 → Zero radix s at (ltb c 48)
    zero_is r {c} f = record { inside = λ t. h; got = λ t. let l = ltb-true c 48 t in rw r (zero_number (omega arith)) }

pub ruleset zeros = (rules, zero-no, zero_is)

-- `parse_number`
pub zero-got : {radix : ℕ} {s : List ℕ} {at : ℕ} {r : Bool} → Zero radix s at r → r ≡ true → is 0 (at + 1) ≡ number radix s at
zero-got w e = w.got e

pub zero-fits : {radix : ℕ} {s : List ℕ} {at : ℕ} {r : Bool} → Zero radix s at r → r ≡ true → length s < 2 ^ 64 → Fits w64 (at + 1)
zero-fits w e k = record { fits = omega (arith, w.inside e) }

pub ruleset numbers = (rules, zero-got, zero-fits)

-- `two_digits`
module _ (s : List ℕ) (at : ℕ) where
  pub two_none : Two s at 256
  two_none = record { first = λ l. absurd (omega arith); got = λ l. absurd (omega arith) }

  module _ {d e : ℕ} (h : at + 2 ≤ length s) (a : d ≡ worth (get_or s at 0)) (b : e ≡ worth (get_or s (at + 1) 0)) (k : d ≤ 15) (l : e ≤ 15) where
    two-read : Digits 16 s at (d * 16 + e) (at + 2)
    two-read =
        let z : at + 1 + 1 ≡ at + 2 = omega arith in
        rw z at (digits_more (digits_more (digits-start 16 s at) a (omega arith) (omega arith) {x = d} (omega arith)) b (omega arith) (omega arith) {x = d * 16 + e} (omega arith))

    two-valued : is (d * 16 + e) (at + 2) ≡ valued at (at + 2) (d * 16 + e)
    two-valued = rw (ne_eqb (at + 2) at (λ q. omega arith), lt-ltb (d * 16 + e) 4294967296 (omega arith))

    two-number : get_or s (at + 2) 0 < 48 → is (d * 16 + e) (at + 2) ≡ number 16 s at
    two-number m =
        by_order (at + 2) (length s)
        (λ o. digits-stop two-read (worth-low (get_or s (at + 2) 0) m) o (omega arith) two-valued)
        (λ o. digits-end two-read o two-valued)

    two-byte : get_or s (at + 2) 0 < 48 → byte 16 s at ≡ is (d * 16 + e) (at + 2)
    unfolding byte
    two-byte m = rw (← two-number m, lt-ltb (d * 16 + e) 256 (omega arith))

  pub two_is : {v c : ℕ} → at + 2 ≤ length s → v ≡ capitals (get_or s at 0) (get_or s (at + 1) 0) → c ≡ get_or s (at + 2) 0 → c < 48 → Two s at v
  two_is {v} h e q m = record {
    first = λ l. (capitals-are (get_or s at 0) (get_or s (at + 1) 0) e l).first;
    got = λ l.
        let w = capitals-are (get_or s at 0) (get_or s (at + 1) 0) e l in
        rw w.sum (two-byte h refl refl (omega (arith, w.first)) (omega (arith, w.second)) (omega arith));
  }

pub ruleset twos = (rules, two_none, two_is)

-- `short_byte`
module _ (radix : ℕ) (s : List ℕ) (at : ℕ) where
  pub short_none : Short radix s at 256
  short_none = record { inside = λ l. absurd (omega arith); got = λ l. absurd (omega arith) }

  pub short-is : {v : ℕ} → radix ≡ 16 → at < length s → 2 ≤ length s - at → Two s at v → Short radix s at v
  short-is e h k w = record { inside = λ l. omega arith; got = λ l. rw e (w.got l) }

pub ruleset shorts = (rules, short_none, short-is)

-- `spaced_byte`
digit-high : (b : ℕ) → worth b < 16 → 32 < b
digit-high b h = by_order b 48 (λ l. absurd (omega (arith, worth-low b l))) (λ l. omega arith)

module _ (radix : ℕ) (s : List ℕ) (at : ℕ) where
  pub spaced-none : Spaced radix s at 256
  spaced-none = record { inside = λ l. absurd (omega arith); got = λ l. absurd (omega arith) }

  pub spaced-is : {v : ℕ} → radix ≡ 16 → at < length s → 3 ≤ length s - at → get_or s at 0 ≡ 32 → Two s (at + 1) v → Spaced radix s at v
  spaced-is {v} f h k e w = record {
    inside = λ l. omega arith;
    got =
        λ l.
        let z : at + 1 + 2 ≡ at + 3 = omega arith in
        let b : is v (at + 3) ≡ byte radix s (at + 1) = rw f (sym (rw z at (w.got l))) in
        sym (next-2 s at (one-space s at (omega arith) e (digit-high (get_or s (at + 1) 0) (w.first l))) radix (λ q. omega arith) b);
  }

pub ruleset spaceds = (rules, spaced-none, spaced-is)

-- `parse_byte`
module _ (radix : ℕ) (s : List ℕ) (at : ℕ) {v : ℕ} (w : Short radix s at v) (h : v < 256) where
  pub short-byte : is v (at + 2) ≡ byte radix s at
  short-byte = sym (w.got h)

  pub short-fits : length s < 2 ^ 64 → Fits w64 (at + 2)
  short-fits k = record { fits = omega (arith, w.inside h) }

-- `next_byte`
module _ (radix : ℕ) (s : List ℕ) (at : ℕ) {v : ℕ} (w : Spaced radix s at v) (h : v < 256) where
  pub spaced-byte : is v (at + 3) ≡ next_byte radix s at
  spaced-byte = sym (w.got h)

  pub spaced-fits : length s < 2 ^ 64 → Fits w64 (at + 3)
  spaced-fits k = record { fits = omega (arith, w.inside h) }

pub ruleset quick = (rules, short-byte, short-fits, spaced-byte, spaced-fits)
