use Rattle.code_match.proofs.Laws.{Seeking}
use lib.ListN.{length}
use Rattle.code_match.proofs.first_mismatch.Given as goal

abbrev pub invariant-loop-i : goal.invariant-loop-i
invariant-loop-i l = Seeking l.values l.masks l.code (length l.code) l.i
