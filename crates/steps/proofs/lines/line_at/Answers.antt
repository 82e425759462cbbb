use Rattle.steps.proofs.Entries.{lining}
use Rattle.steps.proofs.lines.line_at.Goals as goal

pub line_at-requires : goal.line_at-requires
line_at-requires c = search lining

pub returns : goal.returns
returns c = search lining
