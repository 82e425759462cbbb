use Rattle.entry_line.proofs.Laws.Symbols.{symbols}
use Rattle.entry_line.proofs.symbols.value_of.Goals as goal

pub returns-in_err-number : goal.returns-in_err-number
returns-in_err-number c = search symbols

pub returns : goal.returns
returns c = search symbols
