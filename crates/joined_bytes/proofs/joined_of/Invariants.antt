use Rattle.joined_bytes.proofs.Laws.Joined.{Placing}
use Rattle.joined_bytes.proofs.joined_of.Given as goal

abbrev pub invariant-loop-places : goal.invariant-loop-places
invariant-loop-places l = Placing l.radix l.big l.n l.t l.at l.v l.places l.p
