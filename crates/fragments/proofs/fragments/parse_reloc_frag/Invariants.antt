use Rattle.format.specs.Pairs.{fragment}
use Rattle.lists.proofs.Laws.Many.{Counting, Column}
use Rattle.fragments.proofs.Laws.Fragments.{mode_in, entry_in, index_in}
use Rattle.fragments.proofs.fragments.parse_reloc_frag.Given as goal

abbrev pub invariant-loop-n : goal.invariant-loop-n
invariant-loop-n l = (Counting (fragment l.radix l.big) l.t l.at l.n l.p) × (Column mode_in (fragment l.radix l.big) l.t l.at l.initial.modes l.modes l.n l.p) × (Column entry_in (fragment l.radix l.big) l.t l.at l.initial.entries l.entries l.n l.p) × (Column index_in (fragment l.radix l.big) l.t l.at l.initial.indexes l.indexes l.n l.p)
