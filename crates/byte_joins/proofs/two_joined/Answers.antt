use Rattle.byte_joins.proofs.Laws.{joining}
use Rattle.byte_joins.proofs.two_joined.Goals as goal

pub returns-then-x-gt255 : goal.returns-then-x-gt255
returns-then-x-gt255 c = search joining

pub returns-then-y-gt255 : goal.returns-then-y-gt255
returns-then-y-gt255 c = search joining

pub returns : goal.returns
returns c = search joining
