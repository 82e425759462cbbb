-- What the usual forms promise: where the answer is yes, what the definition reads there.
-- Assumes nothing.
use Rattle.std.specs.Prelude.{ℕ, ◌≡◌, Bool, true, List}
use Rattle.format.specs.Got.{is}
use Rattle.format.specs.Entries.{lead}
use Rattle.format.specs.Pairs.{index, area_part}

-- a word and its blanks, up to a place
pub record Led (w s : List ℕ) (at next : ℕ) (r : Bool) : Type 0 where
  pub read : r ≡ true → lead w s at ≡ is tt next

-- R and index 0 with blanks behind them, up to the area's index
pub record Zeroed (radix : ℕ) (s : List ℕ) (r : Bool) : Type 0 where
  pub read : r ≡ true → (big : Bool) (n : ℕ) → area_part (record { radix = radix; big = big; address_length = n }) s 0 ≡ index radix big s 8
