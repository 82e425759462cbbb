use Rattle.totals.proofs.Laws.{making}
use Rattle.totals.proofs.none.Goals as goal

pub no_figures-f-requires : goal.no_figures-f-requires
no_figures-f-requires c = search making

pub no_classes-c-requires : goal.no_classes-c-requires
no_classes-c-requires c = search making

pub returns : goal.returns
returns c = search making
