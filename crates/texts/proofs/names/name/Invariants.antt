use Rattle.texts.proofs.Showing.{Naming}
use Rattle.texts.proofs.names.name.Given as goal

abbrev pub invariant-loop-byte : goal.invariant-loop-byte
invariant-loop-byte l = Naming l.initial.now l.initial.out l.bytes l.now l.out l.byte-index
