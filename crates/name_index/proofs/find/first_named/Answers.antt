use Rattle.name_index.proofs.Laws.{finds}
use Rattle.name_index.proofs.find.first_named.Goals as goal

pub returns-then-noted-eq0 : goal.returns-then-noted-eq0
returns-then-noted-eq0 c = search finds

pub returns-then-named : goal.returns-then-named
returns-then-named c = search finds

pub returns : goal.returns
returns c = search finds
