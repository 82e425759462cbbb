use Rattle.row_parts.proofs.Ranges.{passes}
use Rattle.symbol_rows.proofs.range.past_symbols.Goals as goal

pub loop-j-preserved : goal.loop-j-preserved
loop-j-preserved c = search passes

pub returns-then-not-symbol_in : goal.returns-then-not-symbol_in
returns-then-not-symbol_in c = search passes

pub returns : goal.returns
returns c = search passes
