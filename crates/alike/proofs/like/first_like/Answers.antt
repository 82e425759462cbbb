use Rattle.alike.proofs.Looked.{looks}
use Rattle.alike.proofs.like.first_like.Goals as goal

pub loop-j-init : goal.loop-j-init
loop-j-init c = search looks

pub returns-then-same_placed : goal.returns-then-same_placed
returns-then-same_placed c = search looks

pub loop-j-preserved : goal.loop-j-preserved
loop-j-preserved c = search looks

pub returns : goal.returns
returns c = search looks
