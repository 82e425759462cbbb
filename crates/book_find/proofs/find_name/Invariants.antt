use Prim.Native.Nat.{◌-◌}
use Rattle.book.proofs.Laws.{Halving}
use Rattle.book_find.proofs.find_name.Given as goal

abbrev pub invariant-loop-low : goal.invariant-loop-low
invariant-loop-low l = Halving l.book l.name l.low l.high

abbrev pub decreases-loop-low : goal.decreases-loop-low
decreases-loop-low l = l.high - l.low
