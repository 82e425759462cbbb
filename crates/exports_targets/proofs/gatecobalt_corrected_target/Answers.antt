use Rattle.exports_targets.proofs.Laws.{numbers}
use Rattle.exports_targets.proofs.gatecobalt_corrected_target.Goals as goal

pub corrected_target-requires : goal.corrected_target-requires
corrected_target-requires c = search numbers

pub target_numbers-requires : goal.target_numbers-requires
target_numbers-requires c = search numbers

pub returns : goal.returns
returns c = search numbers
