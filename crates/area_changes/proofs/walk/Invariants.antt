use Rattle.area_changes.proofs.Sides.{AreasGo}
use Rattle.laws.specs.Rows.{fixups_in}
use Prim.Native.Nat.{◌+◌, ◌-◌}
use Rattle.area_changes.proofs.walk.Given as goal

abbrev pub invariant-loop-i : goal.invariant-loop-i
invariant-loop-i l =
    AreasGo l.older.text.now (fixups_in l.older.fixups.now l.older.fixup_count) l.newer.text.now (fixups_in l.newer.fixups.now l.newer.fixup_count)
    l.older.areas.now l.a l.older.values.now l.older.masks.now l.newer.areas.now l.b l.newer.values.now l.newer.masks.now l.writing l.initial.list l.list l.i l.j l.start l.begin l.id l.count

abbrev pub decreases-loop-i : goal.decreases-loop-i
decreases-loop-i l = (l.a - l.i) + (l.b - l.j)
