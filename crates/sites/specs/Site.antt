-- Whether a pair's numbers are within the bounds, and what is known of a site then.
-- Assumes nothing.
use Rattle.std.specs.Prelude.{ℕ, ◌+◌, ◌≤◌, Bool, ◌&&◌, List, leb}
use Rattle.format.specs.Lists.{pick}
use Rattle.format.specs.Tables.{Tables}
use Rattle.laws.specs.Rows.{tables_in}
use Rattle.sites.specs.declared.Line.{Line}
use Rattle.sites.specs.declared.Filled.{Filled}
use Rattle.sites.specs.declared.Site.{Site}

-- a line's counts are within the bounds, and as many content bytes are lent
unfoldable pub line_fits : Line → (lent : ℕ) → Bool
line_fits l lent = leb l.width 4 && (leb l.bytes 256 && (leb l.bytes lent && leb l.fragments 64))

-- the counts of rows are, and the fixup rows have room
unfoldable pub filled_fits : Filled → (room : ℕ) → Bool
filled_fits n room = leb n.areas 64 && (leb n.symbols 1024 && (leb n.fixups 1024 && leb 9216 room))

-- both, the image ends within the bound, and there are no more numbers than fragments can be
unfoldable pub is_ready : Site → Bool
is_ready s = (line_fits s.line s.line.bytes && filled_fits s.filled 9216) && (leb (s.start + s.size) 65536 && leb s.made 64)

-- a line within the bounds
pub record Short (l : Line) : Type 0 where
  pub address : l.width ≤ 4
  pub content : l.bytes ≤ 256
  pub fragments : l.fragments ≤ 64

-- a site within the bounds: 5 to 9 are ruled out
pub record Ready (s : Site) : Type 0 where
  pub line : Short s.line
  pub areas : s.filled.areas ≤ 64
  pub symbols : s.filled.symbols ≤ 1024
  pub fixups : s.filled.fixups ≤ 1024
  pub inside : s.start + s.size ≤ 65536
  pub numbers : s.made ≤ 64

-- a site whose fragments made n numbers
abbrev pub made_at : Site → ℕ → Site
made_at s n = record { line = s.line; filled = s.filled; id = s.id; start = s.start; size = s.size; made = n }

-- more than 64 areas count as none
unfoldable pub few : ℕ → ℕ
few n = pick (leb n 64) n 0

-- the tables that lent rows hold
unfoldable pub tables_for : (areas symbols : List ℕ) → Filled → Tables
tables_for areas symbols n = tables_in areas (few n.areas) symbols n.symbols
