-- The answer about the line at a place, and the steps of the scan to its end.
-- Assumes nothing.
use Rattle.std.specs.Prelude.{ℕ, ◌+◌, ◌<◌, ◌≤◌, ◌≡◌, Bool, false, List, length}
use Rattle.format.specs.Number.{past}
use Rattle.laws.specs.Places.{inner, line_end, end_at, next_line}
use Rattle.text_lines.specs.declared.LineAt.{LineAt}

-- the first three say what the answer is; the others follow, and are what a caller asks
pub record LineIs (text : List ℕ) (p : ℕ) (l : LineAt) : Type 0 where
  pub ends_at : l.end ≡ line_end text p
  pub line-end : l.ends ≡ end_at text p
  pub behind : l.next ≡ next_line text p
  pub from : p ≤ l.end
  pub width : l.next ≡ l.end + l.ends
  pub inside : p ≤ length text → l.next ≤ length text

-- of a byte and what was known before: where the answer is no, the byte is above CR, and it was no before
pub record High (b : ℕ) (before r : Bool) : Type 0 where
  pub high : r ≡ false → 13 < b
  pub rest : r ≡ false → before ≡ false

-- two places from which the line ends at the same place
pub record OneLine (s : List ℕ) (p m : ℕ) : Type 0 where
  pub same : past inner s p ≡ past inner s m

-- where the answer is no, the line goes on behind eight bytes
pub record Eight (s : List ℕ) (p : ℕ) (r : Bool) : Type 0 where
  pub on : r ≡ false → OneLine s p (p + 8)
