use Rattle.pairs_answer.proofs.Laws.{numbers}
use Rattle.pairs_answer.proofs.pairs_numbers.Goals as goal

pub returns-in-Err : goal.returns-in-Err
returns-in-Err c = search numbers

pub returns-in-Ok : goal.returns-in-Ok
returns-in-Ok c = search numbers
