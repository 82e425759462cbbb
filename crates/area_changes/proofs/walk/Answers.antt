use Prim.Native.Nat.{◌+◌, ◌-◌, ◌<◌}
use native.Mathlib.Omega.{arith}
use Rattle.area_changes.proofs.Sides.{lesses, rounds}
use Rattle.area_changes.proofs.walk.Goals.{then-i-a, else-i-a+then-j-b}
use Rattle.area_changes.proofs.walk.Goals as goal

pub loop-i-init : goal.loop-i-init
loop-i-init c = search rounds

pub loop-i-smaller : goal.loop-i-smaller
loop-i-smaller c =
    let some : 0 < (c.args.older.now.area_count - c.loop-i.i) + (c.args.newer.now.area_count - c.loop-i.j) =
    elim c.if-i-a.branch [ then-i-a w ↦ omega (arith, w.if-i-a.true) | else-i-a+then-j-b w ↦ omega (arith, w.if-j-b.true) ] in
    search lesses

pub loop-i-preserved : goal.loop-i-preserved
loop-i-preserved c =
    let some : 0 < (c.args.older.now.area_count - c.loop-i.i) + (c.args.newer.now.area_count - c.loop-i.j) =
    elim c.if-i-a.branch [ then-i-a w ↦ omega (arith, w.if-i-a.true) | else-i-a+then-j-b w ↦ omega (arith, w.if-j-b.true) ] in
    search rounds

pub returns : goal.returns
returns c = search rounds
