use Rattle.symbol_rows.proofs.Symbols.{symbols}
use Rattle.symbol_rows.proofs.symbol.is_ref.Goals as goal

pub returns : goal.returns
returns c = search symbols
