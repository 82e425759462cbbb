use Rattle.exports_book.proofs.Laws.{numbers}
use Rattle.exports_book.proofs.copied_numbers.Goals as goal

pub returns-in-Ok : goal.returns-in-Ok
returns-in-Ok c = search numbers

pub returns-in-Err : goal.returns-in-Err
returns-in-Err c = search numbers
