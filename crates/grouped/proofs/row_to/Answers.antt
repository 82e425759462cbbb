use Rattle.grouped.proofs.Laws.{row}
use Rattle.grouped.proofs.row_to.Goals as goal

pub returns-then-at-id : goal.returns-then-at-id
returns-then-at-id c = search row

pub returns : goal.returns
returns c = search row
