use Rattle.kinds.proofs.Laws.{one}
use Rattle.kinds.proofs.kind_of.Goals as goal

pub returns-then-mark-eq0 : goal.returns-then-mark-eq0
returns-then-mark-eq0 c = search one

pub returns-then-mask-eq255 : goal.returns-then-mask-eq255
returns-then-mask-eq255 c = search one

pub returns-then-mask-eq0 : goal.returns-then-mask-eq0
returns-then-mask-eq0 c = search one

pub returns-else-mask-eq0 : goal.returns-else-mask-eq0
returns-else-mask-eq0 c = search one
