use Rattle.steps.proofs.PairLines.{skipping}
use Rattle.steps.proofs.pair.skipped_pair.Goals as goal
use Rattle.steps.proofs.pair.skipped_pair.Goals.{else-any_line-via-then-any_line+else-any_line-2, else-any_line-via-else-any_line}

pub overflow_add-result : goal.overflow_add-result
overflow_add-result c = search skipping

pub returns-then-any_line-2 : goal.returns-then-any_line-2
returns-then-any_line-2 c = search skipping

pub returns : goal.returns
returns c =
    elim c.else-any_line.branch [ else-any_line-via-then-any_line+else-any_line-2 w ↦ search skipping | else-any_line-via-else-any_line w ↦ search skipping ]
