-- A text's header and the lines behind it, by whether every radix is taken.
-- Assumes nothing.
use Rattle.std.specs.Prelude.{ℕ, Bool, List}
use Rattle.format.specs.Lists.{pick}
use Rattle.format.specs.Outcome.{Outcome, and_then, fine, refused}
use Rattle.format.specs.Records.{Parsed, parsed}
use Rattle.format.specs.Reading as paper
use Rattle.way_in.specs.WayIn.{takes_by}
use Rattle.reading_lines.specs.Laid.{Whole, whole_of}

-- 4, then 18 where not every radix is taken, or what the text holds
unfoldable pub only_taken : (every ended : Bool) → Parsed → Outcome Parsed
only_taken every ended p = pick (takes_by every ended p.form.radix) (fine p) (refused 18 0)

unfoldable pub headed_by : (every ended : Bool) → List ℕ → Outcome Parsed
headed_by every ended text = and_then (parsed ended text) (only_taken every ended)

-- the text: its header and the lines behind it
unfoldable pub whole_text : (every ended : Bool) → List ℕ → Outcome Whole
whole_text every ended text = and_then (and_then (headed_by every ended text) paper.read_of) (λ r. fine (whole_of r))

-- 1 to 3, and then the text
unfoldable pub read_by : (every ended : Bool) → paper.Lent → List ℕ → Outcome paper.Read
read_by every ended b text = and_then (paper.allowed b text) (λ k. and_then (headed_by every ended text) paper.read_of)

unfoldable pub whole_by : (every ended : Bool) → paper.Lent → List ℕ → Outcome Whole
whole_by every ended b text = and_then (read_by every ended b text) (λ r. fine (whole_of r))
