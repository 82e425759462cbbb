use borrow.Author.Rules.{rules}
use Rattle.opening.proofs.refused.Goals as goal

pub returns : goal.returns
returns c = search rules
