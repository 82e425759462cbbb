use borrow.Author.Rules.{rules}
use Rattle.placed_numbers.proofs.refusal_numbers.Goals as goal

pub returns : goal.returns
returns c = search rules
