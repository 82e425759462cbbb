use Rattle.symbol_rows.specs.Ranges.{symbol_in}
use Rattle.row_parts.proofs.Ranges.{Passing}
use Rattle.symbol_rows.proofs.range.past_symbols.Given as goal

abbrev pub invariant-loop-j : goal.invariant-loop-j
invariant-loop-j l = Passing (symbol_in l.symbols l.i l.same) l.from l.n l.j
