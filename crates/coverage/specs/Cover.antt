-- The whole: the map once the tables of group one are there.
-- Assumes nothing.
use Rattle.std.specs.Prelude.{ℕ, ◌≡◌, Bool, true, List}
use Rattle.format.specs.Header.{Form}
use Rattle.format.specs.Lists.{over}
use Rattle.format.specs.Outcome.{Outcome, fine, refused}
use Rattle.format.specs.Pairs.{Pair}
use Rattle.format.specs.Reading.{Read, read}
use Rattle.format.specs.Records.{Taken}
use Rattle.format.specs.Tables.{Tables, tables}
use Rattle.laws.specs.Places.{records_at}
use Rattle.record_rows.specs.ReadPairs.{roomy}
use Rattle.record_parts.specs.Parts.{placed_of}
use Rattle.one_position.specs.Answer.{Held}
use Rattle.one_position.specs.Back.{RowsAre}
use Rattle.covered.specs.Covered as paper
use Rattle.covered.specs.Covered.{covered_by, map_of}
use Rattle.coverage.specs.declared.Covered.{Covered}
use Rattle.coverage.specs.declared.Covered.TheVariants.{Refused, Told}

-- the answer as the definition has it
abbrev pub told : Covered → Outcome paper.Covered
told (Refused n p) = refused n p
told (Told p u) = fine (record { positions = p; unwritten = u })

-- a map that is told, and laid over a lent one
pub record MapTold (map old : List ℕ) (r : Covered) (new : List ℕ) : Type 0 where
  pub says : told r ≡ covered_by (fine map)
  pub held : new ≡ over map old

-- by the rows of areas
pub record AreasCover (areas : List ℕ) (n : ℕ) (pairs content fragments : List ℕ) (many : ℕ) (big : Bool) (width : ℕ) (old : List ℕ) (r : Covered) (new : List ℕ) : Type 0 where
  pub tells : (fm : Form) (t : Tables) (qs : List (Taken Pair)) → Held fm t areas n big width → RowsAre fm t pairs content fragments many qs → MapTold (map_of fm t qs) old r new

-- by the tables of group one from a place on, under a header
pub record TablesCover (text : List ℕ) (at : ℕ) (f : Form) (pairs content fragments : List ℕ) (many : ℕ) (old : List ℕ) (r : Covered) (new : List ℕ) : Type 0 where
  pub tells : (w : Read) → read true roomy text ≡ fine w → f ≡ w.parsed.form → tables (records_at true f text at).entries ≡ fine w.built.tables
      → RowsAre f w.built.tables pairs content fragments many (placed_of w.parsed.records.pairs)
      → MapTold (map_of f w.built.tables (placed_of w.parsed.records.pairs)) old r new
