-- What the exported functions answer, in plain numbers.
-- Assumes nothing.
use Rattle.std.specs.Prelude.{ℕ, min, ◌*◌, ◌+◌, ◌/◌, ◌<◌, ◌≤◌, Bool, List, ◌≡◌, drop, get_or, length, take}
use Rattle.format.specs.Outcome.{Outcome, fine, refused}
use Rattle.format.specs.Target.{target}
use Rattle.laws.specs.Tab.{over}
use Rattle.mode.specs.Class.{class_table}
use Rattle.probe_target.specs.declared.TargetAnswer.{TargetAnswer}

abbrev pub target_answer : Outcome ℕ → TargetAnswer
target_answer (fine t) = record { refused = 0; place = 0; address = t }
target_answer (refused n p) = record { refused = n; place = p; address = 0 }

-- the target, or the number of the refusal
abbrev pub value_of : Outcome ℕ → ℕ
value_of (fine t) = t
value_of (refused n p) = n

-- the target of row i: a mode, a number and an address, and four bytes
unfoldable pub row_target : Bool → (modes numbers addresses bytes : List ℕ) → ℕ → ℕ
row_target big modes numbers addresses bytes i = value_of (target big (get_or modes i 0) (get_or numbers i 0) (take 4 (drop (4 * i) bytes)) (get_or addresses i 0))

-- a table of the classes, and columns that have row i
pub record RowThere (table modes numbers addresses bytes : List ℕ) (i : ℕ) : Type 0 where
  pub classes : table ≡ class_table
  pub mode : i < length modes
  pub number : i < length numbers
  pub address : i < length addresses
  pub four : 4 * i + 4 ≤ length bytes

-- how many whole rows columns of these lengths have
unfoldable pub rows_in : (modes numbers addresses bytes out : ℕ) → ℕ
rows_in modes numbers addresses bytes out = min (min (min modes numbers) (min addresses (bytes / 4))) out

-- n rows, and the targets of all of them over what was lent
pub record Rows (big : Bool) (modes numbers addresses bytes old : List ℕ) (n : ℕ) (out : List ℕ) : Type 0 where
  pub count : n ≡ rows_in (length modes) (length numbers) (length addresses) (length bytes) (length old)
  pub targets : out ≡ over (row_target big modes numbers addresses bytes) n old
