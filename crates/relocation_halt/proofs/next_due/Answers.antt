use Rattle.relocation_halt.proofs.Laws.{fragments}
use Rattle.relocation_halt.proofs.next_due.Goals as goal

pub loop-init : goal.loop-init
loop-init c = search fragments

pub returns-in_err-read : goal.returns-in_err-read
returns-in_err-read c = search fragments

pub loop-preserved : goal.loop-preserved
loop-preserved c = search fragments

pub returns : goal.returns
returns c = search fragments
