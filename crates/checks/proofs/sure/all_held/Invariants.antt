use Rattle.checks.proofs.SureLaws.{Holding}
use Rattle.checks.proofs.sure.all_held.Given as goal

abbrev pub invariant-loop-i : goal.invariant-loop-i
invariant-loop-i l = Holding l.ms l.xs l.n l.c l.i
