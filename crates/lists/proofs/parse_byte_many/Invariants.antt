use Rattle.format.specs.Number.{next_byte}
use Rattle.lists.proofs.Laws.Many.{Counting}
use Rattle.lists.proofs.Laws.Lists.{Onward}
use Rattle.lists.proofs.parse_byte_many.Given as goal

abbrev pub invariant-loop-n : goal.invariant-loop-n
invariant-loop-n l = (Counting (next_byte l.radix) l.t l.at l.n l.p) × (Onward l.radix l.t l.at l.initial.out l.initial.n l.initial.p l.out l.n l.p)
