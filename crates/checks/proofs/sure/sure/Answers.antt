use Rattle.checks.proofs.SureLaws.{surely}
use Rattle.checks.proofs.sure.sure.Goals as goal

pub returns-then-counted : goal.returns-then-counted
returns-then-counted c = search surely

pub returns-else-counted : goal.returns-else-counted
returns-else-counted c = search surely
