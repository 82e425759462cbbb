use Rattle.exports_targets.proofs.Laws.{numbers}
use Rattle.exports_targets.proofs.gatecobalt_target.Goals as goal

pub target-requires : goal.target-requires
target-requires c = search numbers

pub target_numbers-requires : goal.target_numbers-requires
target_numbers-requires c = search numbers

pub returns : goal.returns
returns c = search numbers
