-- The work line of a pair before its fragments are worked in, in three arrays.
-- Assumes nothing.
use Rattle.std.specs.Prelude.{ℕ, ◌≡◌, List, length, take, replicate}
use Rattle.format.specs.Lists.{pick}
use Rattle.format.specs.WorkLine.{padded}
use Rattle.sites.specs.declared.Line.{Line}
use Rattle.sites.specs.Site.{line_fits}

-- the content, full masks and kept flags, where the line is within the bounds, and else nothing has changed
pub record LaidLine (l : Line) (bs wv wm wk wv' wm' wk' : List ℕ) : Type 0 where
  pub values : wv' ≡ pick (line_fits l (length bs)) (padded l.width l.bytes (take l.bytes bs)) wv
  pub masks : wm' ≡ pick (line_fits l (length bs)) (padded l.width l.bytes (replicate l.bytes 255)) wm
  pub keeps : wk' ≡ pick (line_fits l (length bs)) (padded l.width l.bytes (replicate l.bytes 1)) wk
