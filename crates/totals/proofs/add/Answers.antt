use Rattle.totals.proofs.Laws.{adding}
use Rattle.totals.proofs.add.Goals as goal

pub add_verdicts-v-requires : goal.add_verdicts-v-requires
add_verdicts-v-requires c = search adding

pub add_figures-f-requires : goal.add_figures-f-requires
add_figures-f-requires c = search adding

pub add_classes-c-requires : goal.add_classes-c-requires
add_classes-c-requires c = search adding

pub returns : goal.returns
returns c = search adding
