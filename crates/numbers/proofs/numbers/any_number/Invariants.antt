use Rattle.numbers.proofs.Laws.Numbers.{Digits}
use mathlib.Core.Path.{◌≡◌}
use Prim.Native.Nat.{◌<◌}
use Rattle.numbers.proofs.numbers.any_number.Given as goal

abbrev pub invariant-loop-i : goal.invariant-loop-i
invariant-loop-i l = (Digits l.radix l.t l.at l.v l.i) × (l.base ≡ l.radix) × (l.radix < 256)
