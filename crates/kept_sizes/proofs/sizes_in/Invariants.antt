use Rattle.kept_sizes.proofs.KeptSizes.{Summing}
use Rattle.kept_sizes.proofs.sizes_in.Given as goal

abbrev pub invariant-loop-j : goal.invariant-loop-j
invariant-loop-j l = Summing l.areas l.n l.kept l.total l.j
