-- Rows of changes laid in a list, from a row on.
-- Assumes nothing.
use Rattle.std.specs.Prelude.{ℕ, ◌+◌, ◌*◌, ◌≤◌, ◌≡◌, Bool, false, true, List, [], length, ltb}
use Rattle.std.proofs.lemmas.List.Edits.{sets}
use Rattle.format.specs.Lists.{flat, pick}
use Rattle.difference.specs.Changes.{Change}
use Rattle.difference.specs.Rows.{change_columns, change_numbers}

-- numbers stored from row n on, if it is to be written
unfoldable pub stored : Bool → List ℕ → ℕ → List ℕ → List ℕ
stored w list n numbers = pick w (sets list (change_columns * n) numbers) list

-- the rows of changes from row n on
unfoldable pub laid : Bool → List ℕ → ℕ → List Change → List ℕ
laid w list n cs = stored w list n (flat change_numbers cs)

-- a row was added
pub record Added (w : Bool) (list : List ℕ) (n : ℕ) (row : List ℕ) (r : ℕ) (after : List ℕ) : Type 0 where
  pub rows : after ≡ stored w list n row
  pub count : r ≡ n + 1

-- what a row behind n others leaves, and how many there are then: behind 2^32 rows none is added
pub record Put (w : Bool) (list : List ℕ) (n : ℕ) (row : List ℕ) (r : ℕ) (after : List ℕ) : Type 0 where
  pub rows : after ≡ pick (ltb n 4294967296) (stored w list n row) list
  pub count : r ≡ pick (ltb n 4294967296) (n + 1) n

-- changes were added: so many rows, at most k
pub record Walked (w : Bool) (list : List ℕ) (n : ℕ) (cs : List Change) (k r : ℕ) (after : List ℕ) : Type 0 where
  pub rows : after ≡ laid w list n cs
  pub count : r ≡ n + length cs
  pub few : r ≤ n + k

-- changes were added if a walk can be taken, and none otherwise
pub record WalkedIf (can w : Bool) (list : List ℕ) (n : ℕ) (cs : List Change) (k r : ℕ) (after : List ℕ) : Type 0 where
  pub taken : can ≡ true → Walked w list n cs k r after
  pub left : can ≡ false → Walked w list n [] k r after
