use Rattle.entry_line.proofs.Laws.Symbols.{symbols}
use Rattle.entry_line.proofs.symbols.symbol_of.Goals as goal

pub returns-then-a-at : goal.returns-then-a-at
returns-then-a-at c = search symbols

pub returns-in_err-is_ref : goal.returns-in_err-is_ref
returns-in_err-is_ref c = search symbols

pub returns : goal.returns
returns c = search symbols
