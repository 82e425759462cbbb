use Rattle.totals.proofs.Laws.{adding}
use Rattle.format.specs.Target.{wrap_add}
use Rattle.std.proofs.Common.{rules}
use Rattle.totals.proofs.sum.Goals as goal

pub wrapping_add_u64-requires : goal.wrapping_add_u64-requires
wrapping_add_u64-requires c = search adding

pub returns : goal.returns
unfolding wrap_add
returns c = search rules
