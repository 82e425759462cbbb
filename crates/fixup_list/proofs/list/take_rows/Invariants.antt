use Rattle.std.proofs.Common.{◌≡◌, length}
use Rattle.laws.specs.Rows.{fixups_in}
use Rattle.fixup_list.proofs.Laws.{finished}
use Rattle.fixup_list.proofs.list.take_rows.Given as goal

abbrev pub invariant-loop-i : goal.invariant-loop-i
invariant-loop-i l = (length l.list ≡ length l.initial.list) × (finished l.rows l.i 0 l.list ≡ fixups_in l.rows (length l.initial.list))
