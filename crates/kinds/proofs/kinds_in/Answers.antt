use Rattle.kinds.proofs.Laws.{all}
use Rattle.kinds.proofs.kinds_in.Goals as goal

pub count-requires : goal.count-requires
count-requires c = search all

pub count-requires-2 : goal.count-requires-2
count-requires-2 c = search all

pub count-requires-3 : goal.count-requires-3
count-requires-3 c = search all

pub count-requires-4 : goal.count-requires-4
count-requires-4 c = search all

pub returns : goal.returns
returns c = search all
