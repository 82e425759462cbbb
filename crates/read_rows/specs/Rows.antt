-- A module by the rows that a reading left in lent buffers.
-- Assumes nothing.
use Rattle.std.specs.Prelude.{ℕ, ◌≤◌, ◌≡◌, List, length, take, true}
use Rattle.format.specs.Outcome.{fine}
use Rattle.format.specs.Records.{Verdict, verdict}
use Rattle.format.specs.Reading.{Counts, Read, read}
use Rattle.format.specs.Held.{Held, lengths}
use Rattle.laws.specs.Rows.{areas_in, fixups_in, symbols_in}
use Rattle.difference.specs.Module.{Module}
use Rattle.difference.specs.Told.{module_of}

-- a areas, c symbols and m fixups
unfoldable pub module_in : (text areas : List ℕ) (a : ℕ) (symbols : List ℕ) (c : ℕ) (values masks fixups : List ℕ) (m : ℕ) → Module
module_in text areas a symbols c values masks fixups m =
    record { text = text; areas = areas_in areas a; symbols = symbols_in symbols c; values = values; masks = masks; fixups = fixups_in fixups m }

-- the module of the lent buffers, by the counts of an answer
unfoldable pub module_held : List ℕ → Counts → Held → Module
module_held text c h =
    module_in text h.areas c.areas h.symbols c.symbols (take c.positions h.values) (take c.positions h.masks) h.fixups c.fixups

-- counts that a reading can tell, with images that the buffers hold
pub record Fit (c : Counts) (h : Held) : Type 0 where
  pub areas : c.areas ≤ 64
  pub symbols : c.symbols ≤ 1024
  pub fixups : c.fixups ≤ 1024
  pub positions : c.positions ≤ 65536
  pub values : c.positions ≤ length h.values
  pub masks : c.positions ≤ length h.masks

-- what an accepted text left
pub record Accepts (text : List ℕ) (old : Held) (c : Counts) (v : Verdict) (new : Held) : Type 0 where
  pub whole : Read
  pub is_read : read true (lengths old) text ≡ fine whole
  pub verdict-is : v ≡ verdict text whole.parsed
  pub module-is : module_of text whole ≡ module_held text c new
  pub fit : Fit c new
