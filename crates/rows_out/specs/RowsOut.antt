-- The lines of rows as they are written, each with its LF.
-- Assumes nothing.
use Rattle.std.specs.Prelude.{ℕ, List, ◌++◌}
use Rattle.format.specs.Header.{Form}
use Rattle.row_texts.specs.RowRecords.{Rows, records_of}
use Rattle.head_out.specs.HeadOut.{head_out}
use Rattle.entries_out.specs.EntriesOut.{entries_out}
use Rattle.pairs_out.specs.PairsOut.{pairs_out}

-- all lines
unfoldable pub all_out : Form → Rows → List ℕ
all_out f r = head_out f ++ (entries_out (records_of r).entries ++ pairs_out f.big f.address_length r.pairs r.content r.fragments 0 r.pair_count)
