-- When the text that is written from rows gives these rows back: then it is written, and otherwise it is refused with 15.
-- Assumes nothing.
use Rattle.std.specs.Prelude.{suc, ℕ, ◌*◌, ◌+◌, ◌<◌, ◌≤◌, ◌≡◌, true, List, [], ◌∷◌, get_or, length}
use Rattle.format.specs.Header.{Form}
use Rattle.format.specs.Outcome.{fine}
use Rattle.format.specs.Records.{finished, verdict}
use Rattle.format.specs.Reading.{Read, read}
use Rattle.laws.specs.Rows.{from}
use Rattle.record_rows.specs.ReadPairs.{roomy}
use Rattle.written.specs.Named.{Named, NamedEntry, named_area, named_of, named_symbol}
use Rattle.written.specs.ReadsBack.{as_hex}
use Rattle.row_texts.specs.RowRecords.{Rows, area_entry, column, pair_at, symbol_entry, text_of}

-- the A lines of some records
unfoldable pub areas_of : List NamedEntry → List NamedEntry
areas_of [] = []
areas_of (named_area name z g a ∷ es) = named_area name z g a ∷ areas_of es
areas_of (named_symbol name r v ∷ es) = areas_of es

-- an S line, and how many A lines stand before it
pub record Standing : Type 0 where
  pub entry : NamedEntry
  pub before : ℕ

-- the S lines of some records, where k A lines stand before all of them
unfoldable pub symbols_of : ℕ → List NamedEntry → List Standing
symbols_of k [] = []
symbols_of k (named_area name z g a ∷ es) = symbols_of (suc k) es
symbols_of k (named_symbol name r v ∷ es) = record { entry = named_symbol name r v; before = k } ∷ symbols_of k es

-- the j-th symbol of some rows
unfoldable pub standing_at : (text symbols : List ℕ) → ℕ → Standing
standing_at text symbols j = record { entry = symbol_entry text symbols j; before = column symbols j }

-- the content bytes and the fragments of the i-th pair lie in what was lent
pub record PairInside (r : Rows) (i : ℕ) : Type 0 where
  pub content : get_or r.pairs (7 * i + 3) 0 + get_or r.pairs (7 * i + 4) 0 ≤ length r.content
  pub fragments : 3 * (get_or r.pairs (7 * i + 5) 0 + get_or r.pairs (7 * i + 6) 0) ≤ length r.fragments

-- The written text is accepted by the ended reading and finished, with an X form of the same order and address length, and gives back the areas, symbols, T and R records of the rows.
pub record GivesBack (f : Form) (r : Rows) : Type 0 where
  pub again : Read
  pub accepted : read true roomy (text_of f r) ≡ fine again
  pub is-finished : verdict (text_of f r) again.parsed ≡ finished
  pub its-form : again.parsed.form ≡ as_hex f
  pub its-areas : areas_of (named_of (text_of f r) again.parsed.records).entries ≡ from (area_entry r.text r.areas) 0 r.area_count
  pub its-symbols : symbols_of 0 (named_of (text_of f r) again.parsed.records).entries ≡ from (standing_at r.text r.symbols) 0 r.symbol_count
  pub its-pairs : (named_of (text_of f r) again.parsed.records).pairs ≡ from (pair_at r.pairs r.content r.fragments) 0 r.pair_count
  -- and the rows of pairs, and all that they point to, lie in what was lent; areas and symbols that do not have empty names
  pub rows_inside : 7 * r.pair_count ≤ length r.pairs
  pub pairs-inside : (i : ℕ) → i < r.pair_count → PairInside r i
