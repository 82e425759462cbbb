use Rattle.checks.proofs.SureLaws.{holding}
use Rattle.checks.proofs.sure.held.Goals as goal

pub returns-then-mode-ne1 : goal.returns-then-mode-ne1
returns-then-mode-ne1 c = search holding

pub returns-else-mode-ne1 : goal.returns-else-mode-ne1
returns-else-mode-ne1 c = search holding
