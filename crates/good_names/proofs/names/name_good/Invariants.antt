use Rattle.good_names.proofs.Laws.{Names}
use Rattle.good_names.proofs.names.name_good.Given as goal

abbrev pub invariant-loop-b : goal.invariant-loop-b
invariant-loop-b l = Names l.name l.b-index
