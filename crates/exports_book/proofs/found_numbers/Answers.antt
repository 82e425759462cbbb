use Rattle.exports_book.proofs.Laws.{numbers}
use Rattle.exports_book.proofs.found_numbers.Goals as goal

pub returns-in-Some : goal.returns-in-Some
returns-in-Some c = search numbers

pub returns-in-None : goal.returns-in-None
returns-in-None c = search numbers
