use Rattle.texts.proofs.Showing.{naming}
use Rattle.texts.proofs.names.name.Goals as goal

pub loop-byte-init : goal.loop-byte-init
loop-byte-init c = search naming

pub loop-byte-preserved : goal.loop-byte-preserved
loop-byte-preserved c = search naming
