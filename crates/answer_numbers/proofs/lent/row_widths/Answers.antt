use borrow.Author.Rules.{rules}
use Rattle.answer_numbers.proofs.lent.row_widths.Goals as goal

pub returns : goal.returns
returns c = search rules
