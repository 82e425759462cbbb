use Rattle.probe_line.specs.Rows.{taken_row}
use Rattle.probe_line.proofs.Laws.{rowing}
use Rattle.probe_line.proofs.rows.taken.Goals as goal

pub returns-in-Ignored : goal.returns-in-Ignored
returns-in-Ignored c = search rowing

pub returns-in-Area : goal.returns-in-Area
unfolding taken_row
returns-in-Area c = search rowing

pub returns-in-Symbol : goal.returns-in-Symbol
unfolding taken_row
returns-in-Symbol c = search rowing
