use Rattle.totals.proofs.Laws.{adding}
use Rattle.totals.proofs.add_classes.Goals as goal

pub sum-requires : goal.sum-requires
sum-requires c = search adding

pub sum-requires-2 : goal.sum-requires-2
sum-requires-2 c = search adding

pub sum-requires-3 : goal.sum-requires-3
sum-requires-3 c = search adding

pub sum-requires-4 : goal.sum-requires-4
sum-requires-4 c = search adding

pub sum-requires-5 : goal.sum-requires-5
sum-requires-5 c = search adding

pub returns : goal.returns
returns c = search adding
