-- The whole answer: the refusals of the ended reading, then 20, or who wrote the position last.
-- Assumes nothing.
use Rattle.std.specs.Prelude.{ℕ, ◌≡◌, true, List}
use Rattle.format.specs.Header.{Form}
use Rattle.format.specs.Lists.{over}
use Rattle.format.specs.Outcome.{fine}
use Rattle.format.specs.Reading.{Read, read}
use Rattle.format.specs.Tables.{tables}
use Rattle.laws.specs.Places.{records_at}
use Rattle.last_writer.specs.LastWriter.{writer_in, writer_of}
use Rattle.record_rows.specs.ReadPairs.{roomy}
use Rattle.record_rows.specs.RecordRows.{content_bytes, fragment_rows, pair_count, pair_rows}
use Rattle.record_parts.specs.Parts.{placed_of}
use Rattle.position_answer.specs.declared.Explained.{Explained}
use Rattle.one_position.specs.Back.{RowsAre}
use Rattle.position_answer.specs.Answer.{told}

-- the contract
pub record Told (text : List ℕ) (id position : ℕ) (r : Explained) : Type 0 where
  pub says : told r ≡ writer_in true roomy text id position

-- rows over what buffers held before
pub record Holds (w : Read) (pairs content fragments old-pairs old-content old-fragments : List ℕ) (many : ℕ) : Type 0 where
  pub pairs-are : pairs ≡ over (pair_rows 0 0 w.parsed.records.pairs) old-pairs
  pub content-is : content ≡ over (content_bytes w.parsed.records.pairs) old-content
  pub fragments-are : fragments ≡ over (fragment_rows w.parsed.records.pairs) old-fragments
  pub counted : many ≡ pair_count w.parsed.records.pairs

-- rows that hold the records of a text that is read
pub record Rowed (text pairs content fragments : List ℕ) (many : ℕ) : Type 0 where
  pub old-pairs : List ℕ
  pub old-content : List ℕ
  pub old-fragments : List ℕ
  pub holds : (w : Read) → read true roomy text ≡ fine w → Holds w pairs content fragments old-pairs old-content old-fragments many

-- the same with the tables of group one from a place on, under a header
pub record TablesTell (text : List ℕ) (at : ℕ) (f : Form) (pairs content fragments : List ℕ) (many id position : ℕ) (r : Explained) : Type 0 where
  pub says : (w : Read) → read true roomy text ≡ fine w → f ≡ w.parsed.form → tables (records_at true f text at).entries ≡ fine w.built.tables
      → RowsAre f w.built.tables pairs content fragments many (placed_of w.parsed.records.pairs)
      → told r ≡ writer_of f w.built.tables (placed_of w.parsed.records.pairs) id position
