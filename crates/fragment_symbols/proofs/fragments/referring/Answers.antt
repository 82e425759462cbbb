use Rattle.fragment_symbols.proofs.Laws.{looks}
use Rattle.fragment_symbols.proofs.fragments.referring.Goals as goal

pub loop-i-init : goal.loop-i-init
loop-i-init c = search looks

pub refers_to-requires : goal.refers_to-requires
refers_to-requires c = search looks

pub returns-then-refers_to : goal.returns-then-refers_to
returns-then-refers_to c = search looks

pub loop-i-preserved : goal.loop-i-preserved
loop-i-preserved c = search looks

pub returns : goal.returns
returns c = search looks
