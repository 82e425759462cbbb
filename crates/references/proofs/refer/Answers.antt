use Rattle.references.proofs.Laws.{referring}
use Rattle.references.proofs.refer.Goals as goal

pub returns-then-index-filled : goal.returns-then-index-filled
returns-then-index-filled c = search referring

pub returns-then-mode-eq1 : goal.returns-then-mode-eq1
returns-then-mode-eq1 c = search referring

pub returns : goal.returns
returns c = search referring
