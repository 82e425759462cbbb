use Rattle.way_in.proofs.Laws.{looking}
use Rattle.way_in.proofs.find_high.Goals as goal

pub loop-i-init : goal.loop-i-init
loop-i-init c = search looking

pub returns-then-b-ge-HIGH : goal.returns-then-b-ge-HIGH
returns-then-b-ge-HIGH c = search looking

pub loop-i-preserved : goal.loop-i-preserved
loop-i-preserved c = search looking

pub returns : goal.returns
returns c = search looking
