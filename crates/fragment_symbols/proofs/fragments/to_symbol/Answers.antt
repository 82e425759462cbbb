use Rattle.fragment_symbols.proofs.Laws.{refers}
use Rattle.fragment_symbols.proofs.fragments.to_symbol.Goals as goal

pub fragment_cell-requires : goal.fragment_cell-requires
fragment_cell-requires c = search refers

pub returns : goal.returns
returns c = search refers
