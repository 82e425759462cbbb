use Rattle.entry_line.proofs.Laws.Symbols.{symbols}
use Rattle.entry_line.proofs.symbols.parse_symdefref.Goals as goal

pub returns-in_err-name : goal.returns-in_err-name
returns-in_err-name c = search symbols

pub returns : goal.returns
returns c = search symbols
