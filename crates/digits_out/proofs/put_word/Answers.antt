use Rattle.digits_out.proofs.Laws.{wording}
use Rattle.digits_out.proofs.put_word.Goals as goal

pub loop-b-init : goal.loop-b-init
loop-b-init c = search wording

pub put-p-requires : goal.put-p-requires
put-p-requires c = search wording

pub loop-b-preserved : goal.loop-b-preserved
loop-b-preserved c = search wording

pub shape_of-out : goal.shape_of-out
shape_of-out c = search wording

pub returns : goal.returns
returns c = search wording
