use Rattle.byte_joins.proofs.Laws.{joining}
use Rattle.byte_joins.proofs.three_joined.Goals as goal

pub returns-then-a-gt255 : goal.returns-then-a-gt255
returns-then-a-gt255 c = search joining

pub returns-then-b-gt255 : goal.returns-then-b-gt255
returns-then-b-gt255 c = search joining

pub returns-then-c-gt255 : goal.returns-then-c-gt255
returns-then-c-gt255 c = search joining

pub returns : goal.returns
returns c = search joining
