use Rattle.kept_symbols.proofs.Laws.Gone.{others}
use Rattle.kept_symbols.proofs.gone.other_change.Goals as goal

pub loop-i-init : goal.loop-i-init
loop-i-init c = search others

pub kind-requires : goal.kind-requires
kind-requires c = search others

pub returns-then-kind-ne-SYMBOL_ONLY_OLD : goal.returns-then-kind-ne-SYMBOL_ONLY_OLD
returns-then-kind-ne-SYMBOL_ONLY_OLD c = search others

pub loop-i-preserved : goal.loop-i-preserved
loop-i-preserved c = search others

pub returns : goal.returns
returns c = search others
