-- What a loop over things of one kind leaves: how many there were, the place behind them, and what was lent with the first of them in it.
-- Assumes nothing.
use Rattle.std.specs.Prelude.{◌≡◌, ℕ, ◌+◌, ◌-◌, ◌≤◌, List, length}
use Rattle.std.proofs.lemmas.List.Edits.{sets}
use Rattle.format.specs.Got.{Reader, many}
use Rattle.format.specs.Number.{next_byte}
use Rattle.lists.specs.declared.Run.{Run}

-- as many as can be read, counted
pub record Ran {A : Type 0} (item : Reader A) (s : List ℕ) (at count end : ℕ) : Type 0 where
  pub counted : count ≡ length (many (length s) item s at).items
  pub reached : end ≡ (many (length s) item s at).end

-- bytes, each behind blanks: all are counted, and as many are written as there is room for
pub record BytesRead (radix : ℕ) (s : List ℕ) (at : ℕ) (r : Run) (room left : List ℕ) : Type 0 where
  pub ran : Ran (next_byte radix) s at r.count r.end
  pub stored : left ≡ sets room 0 (many (length s) (next_byte radix) s at).items

-- the first of these bytes: with those from their end on they are the whole
pub record BytesBegun (radix : ℕ) (s : List ℕ) (at : ℕ) (r : Run) (room left : List ℕ) : Type 0 where
  pub within : r.count ≤ length s
  pub counted : length (many (length s) (next_byte radix) s at).items ≡ r.count + length (many (length s - r.count) (next_byte radix) s r.end).items
  pub reached : (many (length s) (next_byte radix) s at).end ≡ (many (length s - r.count) (next_byte radix) s r.end).end
  pub stored : sets room 0 (many (length s) (next_byte radix) s at).items ≡ sets left r.count (many (length s - r.count) (next_byte radix) s r.end).items
