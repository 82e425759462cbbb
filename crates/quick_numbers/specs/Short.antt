-- What the short ways find: a 0 that stands alone, and a byte of two capital digits of radix 16, where the answer is below 256.
-- Assumes nothing.
use Rattle.std.specs.Prelude.{ℕ, ◌+◌, ◌<◌, ◌≤◌, ◌≡◌, Bool, true, List, length, get_or}
use Rattle.format.specs.Bytes.{worth}
use Rattle.format.specs.Number.{number, byte, next_byte}
use Rattle.format.specs.Got.{is}

-- a 0 that stands alone, where the answer is yes
pub record Zero (radix : ℕ) (s : List ℕ) (at : ℕ) (r : Bool) : Type 0 where
  pub inside : r ≡ true → at < length s
  pub got : r ≡ true → is 0 (at + 1) ≡ number radix s at

-- two digits with no third behind them
pub record Two (s : List ℕ) (at v : ℕ) : Type 0 where
  pub first : v < 256 → worth (get_or s at 0) < 16
  pub got : v < 256 → byte 16 s at ≡ is v (at + 2)

-- the same as a byte of a radix
pub record Short (radix : ℕ) (s : List ℕ) (at v : ℕ) : Type 0 where
  pub inside : v < 256 → at + 2 ≤ length s
  pub got : v < 256 → byte radix s at ≡ is v (at + 2)

-- the same behind one space
pub record Spaced (radix : ℕ) (s : List ℕ) (at v : ℕ) : Type 0 where
  pub inside : v < 256 → at + 3 ≤ length s
  pub got : v < 256 → next_byte radix s at ≡ is v (at + 3)
