use Rattle.one_position.proofs.BackLaws.{Backing}
use Rattle.one_position.proofs.back.last_of.Given as goal

abbrev pub invariant-loop-k : goal.invariant-loop-k
invariant-loop-k l = Backing l.pairs l.content l.fragments l.n l.big l.width l.home l.want l.k
