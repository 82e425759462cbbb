-- What a text opens with, by whether every radix is taken.
-- Assumes nothing.
use Rattle.std.specs.Prelude.{ℕ, zero, suc, ◌+◌, Bool, List, drop, length}
use Rattle.std.proofs.Math.Option.{Option, none, some}
use Rattle.format.specs.Lists.{pick}
use Rattle.format.specs.Header.{Form, Head, header}
use Rattle.format.specs.Lines.{end_length}
use Rattle.format.specs.Reading as paper
use Rattle.header.specs.Told.{form_of}
use Rattle.way_in.specs.WayIn.{takes_by}
use Rattle.answer.specs.Answer.{told, verdict_at}
use Rattle.opening.specs.declared.Opening as code
use Rattle.opening.specs.declared.Opening.TheVariants.{Answered, Lines}

-- the answer to a text whose lines are not read; or its form, the place where its lines begin, and where its header ends
pub data Opens : Type 0 where
  answered : paper.Answer → Opens
  lines : Form → (at head : ℕ) → Opens

abbrev pub told_opening : code.Opening → Opens
told_opening (Answered a) = answered (told a)
told_opening (Lines f at head) = lines (form_of f) at head

-- a header that ends at a place of a text of n bytes, and no line end behind it
abbrev pub header_alone : (ended : Bool) → (n next : ℕ) → paper.Answer
header_alone ended n next =
    pick ended (paper.refusal 4 0) (paper.accepted (record { areas = 0; symbols = 0; lines = 0; kept = 0; positions = 0; fixups = 0 }) (verdict_at n next))

-- a header that ends at a place, and so many bytes of a line end behind it
unfoldable pub behind_header : (every ended : Bool) → ℕ → Form → (next end : ℕ) → Opens
behind_header every ended n f next zero = answered (header_alone ended n next)
behind_header every ended n f next (suc e) =
    pick (takes_by every ended f.radix) (lines f (next + suc e) (pick ended (next + suc e) next)) (answered (paper.refusal 18 0))

unfoldable pub opening_from : (every ended : Bool) → List ℕ → Option Head → Opens
opening_from every ended text none = answered (paper.refusal 4 0)
opening_from every ended text (some h) = behind_header every ended (length text) h.form h.next (end_length (drop h.next text))

-- 4, then 18 where not every radix is taken, or the lines behind the header
unfoldable pub opening : (every ended : Bool) → List ℕ → Opens
opening every ended text = opening_from every ended text (header text)
