use Rattle.told_beside.proofs.Laws.{halting}
use Rattle.told_beside.proofs.stop_halt.Goals as goal

pub group_one_end-end-requires : goal.group_one_end-end-requires
group_one_end-end-requires c = search halting

pub halt_at-halt-requires : goal.halt_at-halt-requires
halt_at-halt-requires c = search halting

pub returns : goal.returns
returns c = search halting
