use Rattle.text_lines.proofs.Laws.{lining}
use Rattle.text_lines.proofs.line_at.Goals as goal

pub returns-then-t-m-eq10 : goal.returns-then-t-m-eq10
returns-then-t-m-eq10 c = search lining

pub overflow_add-result-2 : goal.overflow_add-result-2
overflow_add-result-2 c = search lining

pub returns : goal.returns
returns c = search lining
