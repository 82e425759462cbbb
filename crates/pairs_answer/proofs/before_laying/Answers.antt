use borrow.Author.Rules.{rules}
use Rattle.pairs_answer.specs.Told.{unlaid}
use Rattle.pairs_answer.proofs.before_laying.Goals as goal

pub returns-in_err-gate : goal.returns-in_err-gate
unfolding unlaid
returns-in_err-gate c = search rules

pub returns : goal.returns
unfolding unlaid
returns c = search rules
