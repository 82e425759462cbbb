use Rattle.scan.proofs.Laws.Kinds.{classes}
use Rattle.scan.proofs.kinds.is_cr_or_lf.Goals as goal

pub returns-then-b-eq13 : goal.returns-then-b-eq13
returns-then-b-eq13 c = search classes

pub returns-else-b-eq13 : goal.returns-else-b-eq13
returns-else-b-eq13 c = search classes
