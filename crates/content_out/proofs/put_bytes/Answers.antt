use Rattle.content_out.proofs.Laws.{listing}
use Rattle.content_out.proofs.put_bytes.Goals as goal

pub loop-b-init : goal.loop-b-init
loop-b-init c = search listing

pub put_byte-p-requires : goal.put_byte-p-requires
put_byte-p-requires c = search listing

pub loop-b-preserved : goal.loop-b-preserved
loop-b-preserved c = search listing

pub shape_of-out : goal.shape_of-out
shape_of-out c = search listing

pub returns : goal.returns
returns c = search listing
