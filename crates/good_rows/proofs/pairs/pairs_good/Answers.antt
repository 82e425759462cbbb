use Rattle.good_rows.proofs.Laws.{pairs}
use Rattle.good_rows.proofs.pairs.pairs_good.Goals as goal

pub returns-then-pairs-n : goal.returns-then-pairs-n
returns-then-pairs-n c = search pairs

pub loop-i-init : goal.loop-i-init
loop-i-init c = search pairs

pub pair_good-requires : goal.pair_good-requires
pair_good-requires c = search pairs

pub returns-then-not-pair_good : goal.returns-then-not-pair_good
returns-then-not-pair_good c = search pairs

pub loop-i-preserved : goal.loop-i-preserved
loop-i-preserved c = search pairs

pub returns : goal.returns
returns c = search pairs
