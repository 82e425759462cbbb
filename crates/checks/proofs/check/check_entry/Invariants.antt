use Rattle.checks.proofs.CheckLaws.{Counting}
use Rattle.checks.proofs.check.check_entry.Given as goal

abbrev pub invariant-loop-i : goal.invariant-loop-i
invariant-loop-i l = Counting l.ms l.es l.xs l.areas l.symbols l.site l.e l.k l.j l.i
