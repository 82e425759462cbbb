use Rattle.probe_form.proofs.Laws.{forming}
use Rattle.probe_form.proofs.form.form_from.Goals as goal

pub returns : goal.returns
returns c = search forming
