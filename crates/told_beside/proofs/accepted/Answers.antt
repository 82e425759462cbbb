use Rattle.told_beside.proofs.Laws.{accepting}
use Rattle.told_beside.proofs.accepted.Goals as goal

pub told_counts-counted-requires : goal.told_counts-counted-requires
told_counts-counted-requires c = search accepting

pub judge-requires : goal.judge-requires
judge-requires c = search accepting

pub returns : goal.returns
returns c = search accepting
