use borrow.Author.Rules.{rules}
use Rattle.reading_numbers.proofs.counted.Goals as goal

pub returns : goal.returns
returns c = search rules
