use Rattle.checks.proofs.SureLaws.{judging}
use Rattle.checks.proofs.check.check_pair.Goals as goal

pub passes-requires : goal.passes-requires
passes-requires c = search judging

pub returns-in-Err : goal.returns-in-Err
returns-in-Err c = search judging

pub returns-in-Ok : goal.returns-in-Ok
returns-in-Ok c = search judging
