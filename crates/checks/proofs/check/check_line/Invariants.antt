use Rattle.checks.proofs.CheckLaws.{Checking}
use Rattle.checks.proofs.check.check_line.Given as goal

abbrev pub invariant-loop-e : goal.invariant-loop-e
invariant-loop-e l = Checking l.ms l.es l.xs l.areas l.symbols l.site l.wk l.n l.k l.e l.p
