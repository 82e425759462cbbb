use Rattle.probe_line.specs.Rows.{sized_row}
use Rattle.probe_line.proofs.Laws.{rowing}
use Rattle.probe_line.proofs.rows.content_row.Goals as goal

pub returns-in-Ok : goal.returns-in-Ok
unfolding sized_row
returns-in-Ok c = search rowing

pub returns-in-Err : goal.returns-in-Err
returns-in-Err c = search rowing
