-- Laid modules, computed: what is laid, the targets of its fixups, and modules outside the conditions.
-- Assumes nothing.
use Rattle.std.specs.Prelude.{ℕ, ◌*◌, ◌≡◌, refl, true, false, List, [], ◌∷◌}
use Rattle.format.specs.Outcome.{Outcome, fine, refused}
use Rattle.format.specs.Corrected.{corrected_of, corrected}
use Rattle.format.specs.Reading.{Lent}
use Rattle.format.specs.Rows.{area_columns, symbol_columns, fixup_columns}
use Rattle.format.specs.Text.{bytes_of}
use Rattle.format.specs.Evaluate.{evaluate}
use Rattle.laws.specs.PairRows.{walk_of}
use Rattle.order.specs.Writes.{cell_of, cells_of, cell_at, writes}
use Rattle.laid.specs.Laid.{Chosen, referred, low_first, low_last, in_bytes, site_of, number_in, field, laid_on, laid_content, laid_line, laid_pairs, laid_bytes}
use Rattle.laid.specs.Fit.{clear, fit_fragment, beside, beside_all, fit_fragments, misses, misses_all, fit, fit_read, laid_read, laid_of}

-- buffers of just their bounds
pub lent : Lent
lent = record { areas = 64 * area_columns; symbols = 1024 * symbol_columns; values = 65536; masks = 65536; fixups = 1024 * fixup_columns }

-- one area at an address, every outside symbol at another
pub chosen : ℕ → ℕ → Chosen
chosen a o = record { areas = a ∷ []; outside = λ place. o }

-- one name to unfold: it opens every definition of this crate
lay : Chosen → List ℕ → Outcome (List ℕ)
unfolding evaluate bytes_of lent cell_of cells_of cell_at writes walk_of referred low_first low_last in_bytes site_of number_in field laid_on laid_content laid_line laid_pairs laid_bytes clear fit_fragment beside beside_all fit_fragments misses misses_all fit fit_read laid_read laid_of
lay ch text = laid_of true lent ch text

-- E1: CSEG at 4000 and _put at 1234
pub e1 : List ℕ
unfolding bytes_of
e1 = bytes_of "XH3\nH 1 areas 2 global symbols\nM demo\nS _put Ref0000\nA CSEG size 6 flags 20 addr 0\nS _go Def0000\nT 00 00 00 12 00 00 02 00 03\nR 00 00 00 00 02 04 00 00 00 07 00 00\n"

pub laid-e1 : laid_of true lent (chosen 0x4000 0x1234) e1 ≡ fine (0x12 ∷ 0x12 ∷ 0x34 ∷ 0x02 ∷ 0x40 ∷ 0x03 ∷ [])
unfolding lay chosen e1
laid-e1 = refl

-- and both fixups reach what they refer to
pub reached-e1 : (corrected true 0x002 0 (0x12 ∷ 0x34 ∷ []) 0x4001 ≡ fine 0x1234) × (corrected true 0x000 3 (0x40 ∷ 0x03 ∷ []) 0x4004 ≡ fine 0x4000)
unfolding evaluate corrected_of corrected
reached-e1 = (refl, refl)

-- little end first; a Def of value 4 through three bytes with number FFFFFF, at the top of the address space; an area that is not kept, by zeros;
-- a fragment of which one byte lies in the area
pub two : List ℕ
unfolding bytes_of
two = bytes_of "XL2\nA C size 9 flags 20\nS _go Def0004\nA D size 5 flags 0\nT 00 00 02 FF FF FF 01 00 AA\nR 00 00 00 00 82 03 00 00 00 06 01 00\nT 08 00 12 34\nR 00 00 00 00 00 02 00 00\n"

pub laid-two : laid_of true lent (chosen 0xFFFFFFFFFFFF0000 0) two ≡ fine (0x02 ∷ 0x03 ∷ 0x00 ∷ 0xFF ∷ 0x00 ∷ 0x00 ∷ 0xAA ∷ 0x00 ∷ 0x12 ∷ [])
unfolding lay chosen two
laid-two = refl

pub reached-two : corrected false 0x082 0xFFFFFF (0x03 ∷ 0x00 ∷ 0xFF ∷ []) 0xFFFFFFFFFFFF0001 ≡ fine 0xFFFFFFFFFFFF0004
unfolding evaluate corrected_of corrected
reached-two = refl

-- ------------------------------------------------------------------ 25

-- a relative byte; bit 2; an entry below A; two fragments with an entry in common; two pairs with a position in common
pub byte-mode : List ℕ
unfolding bytes_of
byte-mode = bytes_of "XH2\nA C size 3 flags 20\nT 00 00 11 22\nR 00 00 00 00 05 02 00 00\n"

pub relative : List ℕ
unfolding bytes_of
relative = bytes_of "XH2\nA C size 3 flags 20\nT 00 00 11 22\nR 00 00 00 00 04 02 00 00\n"

pub low-entry : List ℕ
unfolding bytes_of
low-entry = bytes_of "XH2\nA C size 3 flags 20\nT 00 00 11 22\nR 00 00 00 00 00 00 00 01\n"

pub common-entry : List ℕ
unfolding bytes_of
common-entry = bytes_of "XH2\nA C size 3 flags 20\nT 00 00 11 22 33\nR 00 00 00 00 00 02 00 00 00 03 00 00\n"

pub common-position : List ℕ
unfolding bytes_of
common-position = bytes_of "XH2\nA C size 3 flags 20\nT 00 00 11 22\nR 00 00 00 00\nT 00 01 33\nR 00 00 00 00\n"

pub outside-the-conditions : (laid_of true lent (chosen 0 0) byte-mode ≡ refused 25 0) × (laid_of true lent (chosen 0 0) relative ≡ refused 25 0) × (laid_of true lent (chosen 0 0) low-entry ≡ refused 25 0)
    × (laid_of true lent (chosen 0 0) common-entry ≡ refused 25 0) × (laid_of true lent (chosen 0 0) common-position ≡ refused 25 0)
unfolding lay chosen byte-mode relative low-entry common-entry common-position
outside-the-conditions = (refl, refl, refl, refl, refl)

-- the module's own refusals first: 10 where a fragment of that kind runs past the line
pub runs_past : List ℕ
unfolding bytes_of
runs_past = bytes_of "XH2\nA C size 3 flags 20\nT 00 00 11\nR 00 00 00 00 04 02 00 00\n"

pub refused-first : laid_of true lent (chosen 0 0) runs_past ≡ refused 10 24
unfolding lay chosen runs_past
refused-first = refl
