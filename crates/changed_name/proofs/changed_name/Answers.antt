use Rattle.changed_name.proofs.Laws.{naming}
use Rattle.changed_name.proofs.changed_name.Goals as goal

pub symbol_name-requires : goal.symbol_name-requires
symbol_name-requires c = search naming

pub returns-then-kind-eq-SYMBOL_ONLY_OLD : goal.returns-then-kind-eq-SYMBOL_ONLY_OLD
returns-then-kind-eq-SYMBOL_ONLY_OLD c = search naming

pub as_long-requires : goal.as_long-requires
as_long-requires c = search naming

pub symbol_name-requires-2 : goal.symbol_name-requires-2
symbol_name-requires-2 c = search naming

pub returns : goal.returns
returns c = search naming
