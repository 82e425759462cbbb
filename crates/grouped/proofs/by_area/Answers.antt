use Rattle.grouped.proofs.Laws.{groups, group-unlent, group-short}
use Rattle.grouped.proofs.by_area.Goals as goal
use Rattle.grouped.proofs.by_area.Goals.{then-rows-k-via-then-rows-k, then-rows-k-via-else-rows-k+then-out-k}

pub returns-then-rows-k : goal.returns-then-rows-k
returns-then-rows-k c =
    elim c.then-rows-k.branch [
      | then-rows-k-via-then-rows-k w ↦ group-unlent _ _ _ _ w.if-rows-k.true
      | then-rows-k-via-else-rows-k+then-out-k w ↦ group-short _ _ _ _ w.if-rows-k.false w.if-out-k.true
    ]

pub returns : goal.returns
returns c = search groups
