use Rattle.pairs_out.proofs.Laws.{pairs}
use Rattle.pairs_out.proofs.pairs.put_pairs.Goals as goal

pub loop-i-init : goal.loop-i-init
loop-i-init c = search pairs

pub put_pair-p-requires : goal.put_pair-p-requires
put_pair-p-requires c = search pairs

pub loop-i-preserved : goal.loop-i-preserved
loop-i-preserved c = search pairs

pub shape_of-out : goal.shape_of-out
shape_of-out c = search pairs

pub returns : goal.returns
returns c = search pairs
