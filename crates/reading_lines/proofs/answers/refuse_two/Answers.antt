use Rattle.reading_lines.proofs.Laid.{answers}
use Rattle.reading_lines.proofs.answers.refuse_two.Goals as goal

pub enum_known-two : goal.enum_known-two
enum_known-two c = search answers

pub enum_told-1 : goal.enum_told-1
enum_told-1 c = search answers

pub returns-in-Rejected : goal.returns-in-Rejected
returns-in-Rejected c = search answers

pub returns-in-All : goal.returns-in-All
returns-in-All c = search answers
