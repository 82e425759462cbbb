-- What the usual forms promise: where the answer is yes, what the definition reads there.
-- Assumes nothing.
use Rattle.std.specs.Prelude.{ℕ, ◌+◌, ◌≤◌, ◌≡◌, Bool, true, List, length, get_or}
use Rattle.format.specs.Number.{number}
use Rattle.format.specs.Entries.{field}

-- four bytes behind a place
pub record Four (s : List ℕ) (at a b c d : ℕ) (r : Bool) : Type 0 where
  pub first : r ≡ true → get_or s (at + 1) 0 ≡ a
  pub second : r ≡ true → get_or s (at + 2) 0 ≡ b
  pub third : r ≡ true → get_or s (at + 3) 0 ≡ c
  pub fourth : r ≡ true → get_or s (at + 4) 0 ≡ d

-- a word with blanks around it, up to its number
pub record Worded (w s : List ℕ) (at next : ℕ) (r : Bool) : Type 0 where
  pub inside : r ≡ true → next ≤ length s
  pub read : r ≡ true → (radix : ℕ) → field w radix s at ≡ number radix s next
