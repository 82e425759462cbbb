use Rattle.written_answer.proofs.Laws.{forming}
use Rattle.written_answer.proofs.form_for.Goals as goal

pub x_form-requires : goal.x_form-requires
x_form-requires c = search forming

pub x_form-requires-in-3 : goal.x_form-requires-in-3
x_form-requires-in-3 c = search forming

pub x_form-requires-in-4 : goal.x_form-requires-in-4
x_form-requires-in-4 c = search forming

pub returns-in-2 : goal.returns-in-2
returns-in-2 c = search forming

pub returns-in-3 : goal.returns-in-3
returns-in-3 c = search forming

pub returns-in-4 : goal.returns-in-4
returns-in-4 c = search forming

pub returns-in_default : goal.returns-in_default
returns-in_default c = search forming
