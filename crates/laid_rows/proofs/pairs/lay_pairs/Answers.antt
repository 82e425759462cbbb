use Rattle.laid_rows.proofs.Laws.Pairs.{all-pairs}
use Rattle.laid_rows.proofs.pairs.lay_pairs.Goals as goal

pub loop-k-init : goal.loop-k-init
loop-k-init c = search all-pairs

pub lay_pair-requires : goal.lay_pair-requires
lay_pair-requires c = search all-pairs

pub loop-k-preserved : goal.loop-k-preserved
loop-k-preserved c = search all-pairs

pub shape_of-out : goal.shape_of-out
shape_of-out c = search all-pairs

pub returns : goal.returns
returns c = search all-pairs
