use borrow.Author.Rules.{rules}
use Rattle.admission.specs.Admits.{gate_of}
use Rattle.admission.proofs.answered.Goals as goal

pub returns-in_err-answer : goal.returns-in_err-answer
unfolding gate_of
returns-in_err-answer c = search rules

pub returns : goal.returns
unfolding gate_of
returns c = search rules
