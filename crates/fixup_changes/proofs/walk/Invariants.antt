use Rattle.fixup_changes.proofs.Lacks.{FixupsGo}
use Rattle.fixup_changes.proofs.walk.Given as goal

abbrev pub invariant-loop-i : goal.invariant-loop-i
invariant-loop-i l = FixupsGo l.new l.id l.this.text.now l.this.fixups.now l.this.fixup_count l.other.text.now l.other.fixups.now l.other.fixup_count l.writing l.initial.list l.count l.list l.turn.count l.i
