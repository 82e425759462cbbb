use Rattle.probe_line.specs.Rows.{head_row}
use Rattle.probe_line.proofs.Laws.{rowing}
use Rattle.probe_line.proofs.rows.head_row.Goals as goal

pub returns-in-Found : goal.returns-in-Found
unfolding head_row
returns-in-Found c = search rowing

pub returns-in-Missing : goal.returns-in-Missing
returns-in-Missing c = search rowing
