use borrow.Author.Rules.{rules}
use Rattle.target_asked.proofs.refused.Goals as goal

pub returns : goal.returns
returns c = search rules
