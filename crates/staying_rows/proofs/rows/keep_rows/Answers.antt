use Rattle.staying_rows.proofs.Laws.{keeps}
use Rattle.staying_rows.proofs.rows.keep_rows.Goals as goal

pub loop-j-init : goal.loop-j-init
loop-j-init c = search keeps

pub keep_one-k-requires : goal.keep_one-k-requires
keep_one-k-requires c = search keeps

pub loop-j-preserved : goal.loop-j-preserved
loop-j-preserved c = search keeps

pub shape_of-out : goal.shape_of-out
shape_of-out c = search keeps

pub returns : goal.returns
returns c = search keeps
