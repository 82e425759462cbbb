-- Positions told by their last writers: the smallest module with a position that two lines write, one that one line writes, and one that none does.
-- Assumes nothing.
use Rattle.std.specs.Prelude.{ℕ, ◌*◌, ◌≡◌, refl, true, List}
use Rattle.std.proofs.Math.Option.{none, some}
use Rattle.format.specs.Outcome.{fine, refused}
use Rattle.format.specs.Reading.{Lent}
use Rattle.format.specs.Rows.{area_columns, symbol_columns, fixup_columns}
use Rattle.format.specs.Text.{bytes_of}
use Rattle.format.specs.Evaluate.{evaluate}
use Rattle.laws.specs.PairRows.{walk_of}
use Rattle.order.specs.Writes.{cell_of, cells_of, cell_at, writes}
use Rattle.last_writer.specs.LastWriter.{found_by, first_writer, last_writer, span_from, writer_of, writer_in}

-- buffers of just their bounds
pub lent : Lent
lent = record { areas = 64 * area_columns; symbols = 1024 * symbol_columns; values = 65536; masks = 65536; fixups = 1024 * fixup_columns }

-- 11 22 at 0, and then 33 at 1, in an area of three positions
pub module-text : List ℕ
unfolding bytes_of
module-text = bytes_of "XH2\nA C size 3 flags 20\nT 00 00 11 22\nR 00 00 00 00\nT 00 01 33\nR 00 00 00 00\n"

-- The second pair, whose T stands at 52, wrote position 1 over the first, whose T stands at 24. No pair wrote position 2. There is no position 3, and no area
-- with the id 1. The text up to its first bad byte has no header.
pub told : (writer_in true lent module-text 0 0 ≡ fine (some (record { place = 24; value = 0x11; mask = 0xFF })))
    × (writer_in true lent module-text 0 1 ≡ fine (some (record { place = 52; value = 0x33; mask = 0xFF })))
    × (writer_in true lent module-text 0 2 ≡ fine none)
    × (writer_in true lent module-text 0 3 ≡ refused 20 0)
    × (writer_in true lent module-text 1 0 ≡ refused 20 0)
    × (writer_in true lent (bytes_of "XH2") 1 0 ≡ refused 4 0)
unfolding evaluate bytes_of lent module-text writer_in writer_of span_from last_writer first_writer found_by writes cells_of cell_of cell_at walk_of
told = (refl, refl, refl, refl, refl, refl)
