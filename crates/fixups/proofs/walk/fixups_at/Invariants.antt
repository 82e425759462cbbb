use Rattle.fixups.proofs.EntryLaws.{Fixing}
use Rattle.fixups.proofs.walk.fixups_at.Given as goal

abbrev pub invariant-loop-i : goal.invariant-loop-i
invariant-loop-i l = Fixing l.ms l.es l.xs l.areas l.symbols l.ns l.site l.e l.p l.k l.initial.rows l.rows l.j l.i
