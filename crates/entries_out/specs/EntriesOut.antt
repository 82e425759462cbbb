-- The lines of areas and symbols as they are written, each with its LF.
-- Assumes nothing.
use Rattle.std.specs.Prelude.{ℕ, List}
use Rattle.format.specs.Lists.{flat}
use Rattle.written.specs.Named.{NamedEntry, named_area, named_symbol}
use Rattle.entry_out.specs.EntryOut.{area_out, symbol_out}

-- an A line, or an S line
abbrev pub entry_line : NamedEntry → List ℕ
entry_line (named_area name z g a) = area_out name z g a
entry_line (named_symbol name r v) = symbol_out name r v

-- the lines of group one
unfoldable pub entries_out : List NamedEntry → List ℕ
entries_out es = flat entry_line es
