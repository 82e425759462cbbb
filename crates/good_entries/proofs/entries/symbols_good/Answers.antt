use Rattle.good_entries.proofs.Laws.{symbols}
use Rattle.good_entries.proofs.entries.symbols_good.Goals as goal

pub loop-j-init : goal.loop-j-init
loop-j-init c = search symbols

pub symbol_cell-requires : goal.symbol_cell-requires
symbol_cell-requires c = search symbols

pub wide-c-requires : goal.wide-c-requires
wide-c-requires c = search symbols

pub returns-then-c-k : goal.returns-then-c-k
returns-then-c-k c = search symbols

pub symbol_name-requires : goal.symbol_name-requires
symbol_name-requires c = search symbols

pub name_good-requires : goal.name_good-requires
name_good-requires c = search symbols

pub returns-then-not-name_good : goal.returns-then-not-name_good
returns-then-not-name_good c = search symbols

pub loop-j-preserved : goal.loop-j-preserved
loop-j-preserved c = search symbols

pub returns : goal.returns
returns c = search symbols
