use Rattle.staying_rows.proofs.Laws.{Keeping}
use Rattle.staying_rows.proofs.rows.keep_rows.Given as goal

abbrev pub invariant-loop-j : goal.invariant-loop-j
invariant-loop-j l = Keeping l.symbols l.flags l.m l.initial.out l.out l.k l.j
