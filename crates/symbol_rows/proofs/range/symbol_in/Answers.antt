use Rattle.symbol_rows.proofs.Homes.{homes}
use Rattle.symbol_rows.proofs.range.symbol_in.Goals as goal

pub returns-then-home-eq0 : goal.returns-then-home-eq0
returns-then-home-eq0 c = search homes

pub returns : goal.returns
returns c = search homes
