use Rattle.checks.proofs.SureLaws.{holding}
use Rattle.checks.proofs.sure.all_held.Goals as goal

pub loop-i-init : goal.loop-i-init
loop-i-init c = search holding

pub at-requires : goal.at-requires
at-requires c = search holding

pub at-requires-in-loop-i : goal.at-requires-in-loop-i
at-requires-in-loop-i c = search holding

pub held-requires : goal.held-requires
held-requires c = search holding

pub returns-then-not-held : goal.returns-then-not-held
returns-then-not-held c = search holding

pub loop-i-preserved : goal.loop-i-preserved
loop-i-preserved c = search holding

pub returns : goal.returns
returns c = search holding
