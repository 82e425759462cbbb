use Rattle.way_in.proofs.Laws.{below}
use Rattle.way_in.proofs.highest.Goals as goal

pub loop-b-init : goal.loop-b-init
loop-b-init c = search below

pub greater-h-requires : goal.greater-h-requires
greater-h-requires c = search below

pub loop-b-preserved : goal.loop-b-preserved
loop-b-preserved c = search below

pub returns : goal.returns
returns c = search below
