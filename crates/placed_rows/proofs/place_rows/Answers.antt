use Rattle.placed_rows.proofs.Laws.{placing}
use Rattle.placed_rows.proofs.place_rows.Goals as goal

pub returns-then-not-is_enough : goal.returns-then-not-is_enough
returns-then-not-is_enough c = search placing

pub returns-then-not-fits_rows : goal.returns-then-not-fits_rows
returns-then-not-fits_rows c = search placing

pub returns : goal.returns
returns c = search placing
