use Rattle.fixups.proofs.LineLaws.{Walking}
use Prim.Native.Nat.{◌-◌}
use Rattle.fixups.proofs.walk.fixup_rows.Given as goal

abbrev pub invariant-loop-next : goal.invariant-loop-next
invariant-loop-next l = Walking l.ms l.es l.xs l.areas l.symbols l.ns l.site l.wk l.n l.initial.rows l.rows l.k l.e l.p l.next

abbrev pub decreases-loop-next : goal.decreases-loop-next
decreases-loop-next l = l.n - l.e
