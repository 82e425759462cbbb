use Rattle.covering.proofs.Laws.{seeking}
use Rattle.covering.proofs.entry_of.Goals as goal

pub returns-then-is_here : goal.returns-then-is_here
returns-then-is_here c = search seeking

pub loop-e-preserved : goal.loop-e-preserved
loop-e-preserved c = search seeking

pub returns : goal.returns
returns c = search seeking
