use Rattle.totals.proofs.Laws.{making}
use Rattle.totals.proofs.verdicts_of.Goals as goal

pub one_if-requires : goal.one_if-requires
one_if-requires c = search making

pub one_if-requires-2 : goal.one_if-requires-2
one_if-requires-2 c = search making

pub one_if-requires-3 : goal.one_if-requires-3
one_if-requires-3 c = search making

pub returns : goal.returns
returns c = search making
