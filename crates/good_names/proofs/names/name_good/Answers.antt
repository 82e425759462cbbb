use Rattle.good_names.proofs.Laws.{naming}
use Rattle.good_names.proofs.names.name_good.Goals as goal

pub loop-b-init : goal.loop-b-init
loop-b-init c = search naming

pub byte_good-requires : goal.byte_good-requires
byte_good-requires c = search naming

pub returns-then-not-byte_good : goal.returns-then-not-byte_good
returns-then-not-byte_good c = search naming

pub loop-b-preserved : goal.loop-b-preserved
loop-b-preserved c = search naming

pub returns : goal.returns
returns c = search naming
