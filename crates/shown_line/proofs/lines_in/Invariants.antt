use Rattle.shown_line.proofs.Laws.{Counting}
use Rattle.shown_line.proofs.lines_in.Given as goal

abbrev pub invariant-loop-byte : goal.invariant-loop-byte
invariant-loop-byte l = Counting l.bytes l.n l.byte-index
