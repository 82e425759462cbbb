use Rattle.fixup_rows.specs.Ranges.{fixup_in}
use Rattle.row_parts.proofs.Ranges.{Passing}
use Rattle.fixup_rows.proofs.range.past_fixups.Given as goal

abbrev pub invariant-loop-j : goal.invariant-loop-j
invariant-loop-j l = Passing (fixup_in l.fixups l.id l.same) l.from l.n l.j
