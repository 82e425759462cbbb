use Rattle.page_name.proofs.Laws.{naming}
use Rattle.page_name.proofs.name.Goals as goal

pub loop-byte-init : goal.loop-byte-init
loop-byte-init c = search naming

pub loop-byte-preserved : goal.loop-byte-preserved
loop-byte-preserved c = search naming
