use Rattle.scan.proofs.Laws.Kinds.{classes}
use Rattle.scan.proofs.kinds.is_blank.Goals as goal

pub returns-then-b-eq32 : goal.returns-then-b-eq32
returns-then-b-eq32 c = search classes

pub returns-else-b-eq32 : goal.returns-else-b-eq32
returns-else-b-eq32 c = search classes
