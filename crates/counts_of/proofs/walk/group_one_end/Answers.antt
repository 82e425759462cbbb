use Rattle.counts_of.proofs.Laws.Walk.{endings}
use Rattle.counts_of.proofs.walk.group_one_end.Goals as goal

pub returns-in_default : goal.returns-in_default
returns-in_default c = search endings

pub loop-p-smaller : goal.loop-p-smaller
loop-p-smaller c = search endings

pub loop-p-preserved : goal.loop-p-preserved
loop-p-preserved c = search endings

pub returns : goal.returns
returns c = search endings
