use Rattle.symbol_rows.proofs.Symbols.{symbols}
use Rattle.symbol_rows.proofs.symbol.symbol_value.Goals as goal

pub returns : goal.returns
returns c = search symbols
