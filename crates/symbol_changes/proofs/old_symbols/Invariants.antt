use Rattle.symbol_changes.proofs.Names.{Gathering}
use Rattle.symbol_changes.specs.Here.{old_here}
use Rattle.symbol_changes.proofs.old_symbols.Given as goal

abbrev pub invariant-loop-i : goal.invariant-loop-i
invariant-loop-i l = Gathering (old_here l.older.text.now l.older.symbols.now l.older.symbol_count l.newer.text.now l.newer.symbols.now l.newer.symbol_count) l.older.symbol_count l.writing l.initial.list l.first l.list l.count l.i
