use Rattle.target_parts.proofs.StartLaws.{closings}
use Rattle.target_parts.proofs.site.near.Goals as goal

pub nonzero_rem-result : goal.nonzero_rem-result
nonzero_rem-result c = search closings

pub overflow_add-result : goal.overflow_add-result
overflow_add-result c = search closings

pub returns : goal.returns
returns c = search closings
