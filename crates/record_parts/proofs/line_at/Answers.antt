use Rattle.record_parts.proofs.Laws.{lining}
use Rattle.record_parts.proofs.line_at.Goals as goal

pub returns-then-pairs-p : goal.returns-then-pairs-p
returns-then-pairs-p c = search lining

pub returns : goal.returns
returns c = search lining
