-- Bytes written from a place on: those that have room are stored, and the place behind them is counted as far as it can be.
-- Assumes nothing.
use Rattle.std.specs.Prelude.{ℕ, ◌+◌, ◌≤◌, ◌≡◌, List, length, leb}
use Rattle.std.proofs.lemmas.List.Edits.{sets}
use Rattle.format.specs.Lists.{pick}
use Rattle.hexadecimal.specs.Hex.{hex_digits}
use Rattle.manual.specs.Digits.{digits_of}

-- the largest place, past every buffer's end
abbrev pub farthest : ℕ
farthest = 18446744073709551615

-- at most that
unfoldable pub capped : ℕ → ℕ
capped n = pick (leb n farthest) n farthest

-- the bytes w, written from a place on
pub record Wrote (w out : List ℕ) (at r : ℕ) (out' : List ℕ) : Type 0 where
  pub place : r ≡ capped (at + length w)
  pub stored : out' ≡ sets out at w

-- a number has so many digits, without zeros in front
pub record HasDigits (n r : ℕ) : Type 0 where
  pub few : r ≤ 8
  pub shown : digits_of 16 1 n ≡ hex_digits r n
