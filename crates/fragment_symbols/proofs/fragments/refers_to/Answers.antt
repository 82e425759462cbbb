use Rattle.fragment_symbols.proofs.Laws.{refers}
use Rattle.fragment_symbols.proofs.fragments.refers_to.Goals as goal

pub to_symbol-requires : goal.to_symbol-requires
to_symbol-requires c = search refers

pub fragment_cell-requires : goal.fragment_cell-requires
fragment_cell-requires c = search refers

pub wide-requires : goal.wide-requires
wide-requires c = search refers

pub returns-then-to_symbol : goal.returns-then-to_symbol
returns-then-to_symbol c = search refers

pub returns : goal.returns
returns c = search refers
