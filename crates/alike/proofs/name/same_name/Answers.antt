use Rattle.alike.proofs.Names.{names}
use Rattle.alike.proofs.name.same_name.Goals as goal

pub returns-then-a-b : goal.returns-then-a-b
returns-then-a-b c = search names

pub returns-then-a-i : goal.returns-then-a-i
returns-then-a-i c = search names

pub returns : goal.returns
returns c = search names
