use Rattle.pair_places.proofs.Laws.{places}
use Rattle.pair_places.proofs.pair_places.Goals as goal

pub returns-then-t-p : goal.returns-then-t-p
returns-then-t-p c = search places

pub returns-then-first-eq0 : goal.returns-then-first-eq0
returns-then-first-eq0 c = search places

pub returns : goal.returns
returns c = search places
