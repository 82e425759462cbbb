use Rattle.shown_line.proofs.Laws.{Starting}
use Rattle.shown_line.proofs.start_behind.Given as goal

abbrev pub invariant-loop-i : goal.invariant-loop-i
invariant-loop-i l = Starting l.bytes l.start l.i
