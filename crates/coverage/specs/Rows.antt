-- What all pairs out of rows of records mark, and the map of so many positions.
-- Assumes nothing.
use Rattle.std.specs.Prelude.{ℕ, ◌≡◌, Bool, List}
use Rattle.format.specs.Lists.{over}
use Rattle.format.specs.Header.{Form}
use Rattle.format.specs.Pairs.{Pair}
use Rattle.format.specs.Records.{Taken}
use Rattle.format.specs.Tables.{Tables, total}
use Rattle.covered.specs.Covered.{map_of, marked_by, unwritten_in}
use Rattle.one_position.specs.Answer.{Held}
use Rattle.one_position.specs.Back.{RowsAre}

-- all rows
pub record RowsMark (areas : List ℕ) (n : ℕ) (pairs content fragments : List ℕ) (many : ℕ) (big : Bool) (width : ℕ) (old new : List ℕ) : Type 0 where
  pub marks : (fm : Form) (t : Tables) (qs : List (Taken Pair)) → Held fm t areas n big width → RowsAre fm t pairs content fragments many qs → new ≡ marked_by fm t qs old

-- the map, and how many positions no pair writes
pub record RowsCover (areas : List ℕ) (n positions : ℕ) (pairs content fragments : List ℕ) (many : ℕ) (big : Bool) (width : ℕ) (old : List ℕ) (r : ℕ) (new : List ℕ) : Type 0 where
  pub counts : (fm : Form) (t : Tables) (qs : List (Taken Pair)) → Held fm t areas n big width → RowsAre fm t pairs content fragments many qs → positions ≡ total t.areas
      → r ≡ unwritten_in (map_of fm t qs)
  pub map : (fm : Form) (t : Tables) (qs : List (Taken Pair)) → Held fm t areas n big width → RowsAre fm t pairs content fragments many qs → positions ≡ total t.areas
      → new ≡ over (map_of fm t qs) old
