use Rattle.totals.proofs.Laws.{making}
use Rattle.totals.proofs.module.Goals as goal

pub verdicts_of-v-requires : goal.verdicts_of-v-requires
verdicts_of-v-requires c = search making

pub returns : goal.returns
returns c = search making
