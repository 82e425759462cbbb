use Rattle.joining.proofs.JoinLaws.{Joining}
use Rattle.joining.proofs.join.endian_to_number.Given as goal

abbrev pub invariant-loop-i : goal.invariant-loop-i
invariant-loop-i l = Joining l.big l.part l.k l.number l.i
