use Rattle.probe_form.proofs.Laws.{forming}
use Rattle.probe_form.proofs.form.width_from.Goals as goal

pub returns-in-2 : goal.returns-in-2
returns-in-2 c = search forming

pub returns-in-3 : goal.returns-in-3
returns-in-3 c = search forming

pub returns-in_default : goal.returns-in_default
returns-in_default c = search forming
