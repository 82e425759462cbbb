use Rattle.halt_of.proofs.Laws.Stop.{stops}
use Rattle.halt_of.proofs.stop.halt_at.Goals as goal

pub returns-then-t-p : goal.returns-then-t-p
returns-then-t-p c = search stops

pub pair_due-requires : goal.pair_due-requires
pair_due-requires c = search stops

pub pair_at-requires : goal.pair_at-requires
pair_at-requires c = search stops

pub returns-then-pair_due : goal.returns-then-pair_due
returns-then-pair_due c = search stops

pub entry_at-requires : goal.entry_at-requires
entry_at-requires c = search stops

pub returns : goal.returns
returns c = search stops
