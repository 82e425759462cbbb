-- The answer for an area's id and a position, once the tables and the rows of the records are there.
-- Assumes nothing.
use Rattle.std.specs.Prelude.{ℕ, ◌≤◌, ◌≡◌, Bool, List}
use Rattle.format.specs.Header.{Form}
use Rattle.format.specs.Pairs.{Pair}
use Rattle.format.specs.Records.{Taken}
use Rattle.format.specs.Tables.{Tables, total}
use Rattle.laws.specs.Rows.{areas_in}
use Rattle.last_writer.specs.LastWriter.{writer_of}
use Rattle.position_answer.specs.declared.Explained.{Explained}
use Rattle.one_position.specs.Back.{RowsAre}
use Rattle.position_answer.specs.Answer.{told}

-- the areas that the rows hold, under a header
pub record Held (fm : Form) (t : Tables) (areas : List ℕ) (n : ℕ) (big : Bool) (width : ℕ) : Type 0 where
  pub areas-are : areas_in areas n ≡ t.areas
  pub order : big ≡ fm.big
  pub address : width ≡ fm.address_length
  pub narrow : width ≤ 4
  pub sizes : total t.areas ≤ 65536

-- 20, or the last of the pairs that writes the position
pub record AnswerIs (areas : List ℕ) (n : ℕ) (pairs content fragments : List ℕ) (many : ℕ) (big : Bool) (width id position : ℕ) (r : Explained) : Type 0 where
  pub answer : (fm : Form) (t : Tables) (qs : List (Taken Pair)) → Held fm t areas n big width → RowsAre fm t pairs content fragments many qs → told r ≡ writer_of fm t qs id position
