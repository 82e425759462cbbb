use Rattle.probe_line.proofs.Laws.{rowing}
use Rattle.probe_line.proofs.rows.line_row.Goals as goal

pub line_at-l-requires : goal.line_at-l-requires
line_at-l-requires c = search rowing

pub values-requires : goal.values-requires
values-requires c = search rowing

pub returns : goal.returns
returns c = search rowing
