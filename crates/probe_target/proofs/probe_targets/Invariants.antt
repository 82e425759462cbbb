use Rattle.probe_target.proofs.Laws.{Filling}
use Rattle.probe_target.proofs.probe_targets.Given as goal

abbrev pub invariant-loop-i : goal.invariant-loop-i
invariant-loop-i l = Filling l.big l.modes l.numbers l.addresses l.bytes l.initial.out l.n l.out l.i
