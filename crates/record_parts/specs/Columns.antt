-- A pair's numbers out of its row, and the columns of its fragments out of theirs.
-- Assumes nothing.
use Rattle.std.specs.Prelude.{ℕ, ◌+◌, ◌*◌, ◌≡◌, Bool, List, get_or, set}
use Rattle.std.proofs.lemmas.List.Edits.{sets}
use Rattle.laws.specs.Rows.{from}
use Rattle.record_rows.specs.RecordRows.{fragment_columns}
use Rattle.sites.specs.declared.Line.{Line}

-- the pair whose row begins at a place
unfoldable pub line_from : List ℕ → (p : ℕ) → Bool → (width : ℕ) → Line
line_from rows p big width = record {
  big = big;
  width = width;
  place = get_or rows p 0;
  address = get_or rows (p + 1) 0;
  bytes = get_or rows (p + 4) 0;
  fragments = get_or rows (p + 6) 0;
  area = get_or rows (p + 2) 0;
}

-- the j-th number of a column of fragments whose rows begin at a place; c is 0 for the mode, 1 for the entry, 2 for the index
unfoldable pub cell : List ℕ → (p c j : ℕ) → ℕ
cell rows p c j = get_or rows (p + fragment_columns * j + c) 0

-- a column's first n numbers
unfoldable pub column : List ℕ → (p c n : ℕ) → List ℕ
column rows p c n = from (cell rows p c) 0 n

-- one row stored
pub record ThreeAt (rows : List ℕ) (p i : ℕ) (ms es xs ms' es' xs' : List ℕ) : Type 0 where
  pub modes : ms' ≡ set ms i (get_or rows p 0)
  pub entries : es' ≡ set es i (get_or rows (p + 1) 0)
  pub indexes : xs' ≡ set xs i (get_or rows (p + 2) 0)

-- n rows stored from the start on
pub record Three (rows : List ℕ) (p n : ℕ) (ms es xs ms' es' xs' : List ℕ) : Type 0 where
  pub modes : ms' ≡ sets ms 0 (column rows p 0 n)
  pub entries : es' ≡ sets es 0 (column rows p 1 n)
  pub indexes : xs' ≡ sets xs 0 (column rows p 2 n)
