use Rattle.way_in.proofs.Laws.{radices}
use Rattle.way_in.proofs.takes.Goals as goal

pub returns-then-ended : goal.returns-then-ended
returns-then-ended c = search radices

pub returns : goal.returns
returns c = search radices
