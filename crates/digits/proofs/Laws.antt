-- What bytes are worth as digits, and as capital digits of radix 16.
-- Assumes nothing.
use Rattle.std.proofs.Common.{◌≡◌, ℕ, ◌+◌, ◌-◌, ◌*◌, ◌%◌, ◌^◌, ◌<◌, ◌≤◌, Bool, true, false, ltb, leb, refl, ◌∙◌, arith, rules, ltb-true, le-ltb, lt-ltb, le-leb}
use mathlib.Core.Bool.{false≢true}
use borrow.Author.Tests.{lt-leb}
use Rattle.format.specs.Lists.{pick}
use Rattle.format.specs.Bytes.{worth}
use Rattle.digits.specs.Capitals.{is_capital, capitals, Hex}

-- `worth_of`
pub ruleset worths = (rules, lt-ltb, le-ltb, le-leb, lt-leb)

-- `hex_of`
module _ (b : ℕ) where
  pub worth-low : b < 48 → 255 ≡ worth b
  unfolding worth
  worth-low h = rw (lt-ltb b 48 h)

  pub worth-ten : 48 ≤ b → b ≤ 57 → b - 48 ≡ worth b
  unfolding worth
  worth-ten h k = rw (le-ltb b 48 h, le-leb b 57 k)

  worth-capital : 65 ≤ b → b ≤ 70 → b - 55 ≡ worth b
  unfolding worth
  worth-capital h k = rw (le-ltb b 48 (omega arith), lt-leb b 57 (omega arith), le-ltb b 65 h, le-leb b 70 k)

  worth-gap : 58 ≤ b → b < 65 → 255 ≡ worth b
  unfolding worth
  worth-gap h k = rw (le-ltb b 48 (omega arith), lt-leb b 57 (omega arith), lt-ltb b 65 k)

  is-capital : b ≤ 70 → worth b < 16 → is_capital b ≡ true
  unfolding is_capital
  is-capital h k = rw (le-leb b 70 h, lt-ltb (worth b) 16 k)

  no_digit : 255 ≡ worth b → is_capital b ≡ false
  unfolding is_capital
  no_digit e = rw (← e) (go (leb b 70))
    where
      go : (t : Bool) → pick t false false ≡ false
      go true = refl
      go false = refl

  no-capital : 70 < b → is_capital b ≡ false
  unfolding is_capital
  no-capital h = rw (lt-leb b 70 h)

  pub hex-ten : {d : ℕ} → b < 58 → (d + 48) % 2 ^ 64 ≡ b → d < 2 ^ 64 → Hex b d
  hex-ten {d} h e f =
      record {
        digit = λ l. let g : d ≡ b - 48 = omega arith in g ∙ worth-ten (omega arith) (omega arith);
        capital = λ l. is-capital (omega arith) (omega (arith, worth-ten (omega arith) (omega arith)));
        other = λ l. no_digit (worth-low (omega arith));
      }

  pub hex-none : 58 ≤ b → b < 65 → Hex b b
  hex-none h k = record { digit = λ l. absurd (omega arith); capital = λ l. absurd (omega arith); other = λ l. no_digit (worth-gap h k) }

  pub hex-capital : 65 ≤ b → Hex b (b - 55)
  hex-capital h = record {
    digit = λ l. worth-capital h (omega arith);
    capital = λ l. is-capital (omega arith) (omega (arith, worth-capital h (omega arith)));
    other = λ l. no-capital (omega arith);
  }

  capital-small : is_capital b ≡ true → worth b < 16
  unfolding is_capital
  capital-small e = go (leb b 70) e
    where
      go : (t : Bool) → pick t (ltb (worth b) 16) false ≡ true → worth b < 16
      go true f = ltb-true (worth b) 16 f
      go false f = absurd (false≢true f)

pub ruleset hexes = (rules, hex-ten, hex-none, hex-capital)

-- `two_capitals`
module _ (a b : ℕ) {d e : ℕ} (x : Hex a d) (y : Hex b e) where
  pub capitals-1 : 15 < d → 256 ≡ capitals a b
  unfolding capitals
  capitals-1 h = rw (x.other h)

  pub capitals-2 : d ≤ 15 → 15 < e → 256 ≡ capitals a b
  unfolding capitals
  capitals-2 h k = rw (x.capital (omega arith), y.other k)

  pub capitals-3 : d ≤ 15 → e ≤ 15 → d * 16 + e ≡ capitals a b
  unfolding capitals
  capitals-3 h k = rw (x.capital (omega arith), y.capital (omega arith), x.digit (omega arith), y.digit (omega arith))

pub ruleset capital = (rules, capitals-1, capitals-2, capitals-3)

-- what an answer below 256 says of the two bytes
pub record Capitals (a b v : ℕ) : Type 0 where
  pub first : worth a < 16
  pub second : worth b < 16
  pub sum : v ≡ worth a * 16 + worth b

pub capitals-are : (a b : ℕ) {v : ℕ} → v ≡ capitals a b → v < 256 → Capitals a b v
unfolding capitals
capitals-are a b {v} e h = go (is_capital a) refl (is_capital b) refl e
  where
    go : (t : Bool) → is_capital a ≡ t → (u : Bool) → is_capital b ≡ u → v ≡ pick t (pick u (worth a * 16 + worth b) 256) 256 → Capitals a b v
    go true i true j f = record { first = capital-small a i; second = capital-small b j; sum = f }
    go true i false j f = absurd (omega arith)
    go false i u j f = absurd (omega arith)
