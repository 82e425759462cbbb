use Rattle.name_index.proofs.Laws.{hashes}
use Rattle.name_index.proofs.hash.hash.Goals as goal

pub loop-b-init : goal.loop-b-init
loop-b-init c = search hashes

pub loop-b-preserved : goal.loop-b-preserved
loop-b-preserved c = search hashes

pub returns : goal.returns
returns c = search hashes
