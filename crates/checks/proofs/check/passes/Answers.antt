use Rattle.checks.proofs.SureLaws.{sparing}
use Rattle.checks.proofs.check.passes.Goals as goal

pub returns-then-sure : goal.returns-then-sure
returns-then-sure c = search sparing

pub returns : goal.returns
returns c = search sparing
