use Rattle.reading_numbers.proofs.Laws.{numbers}
use Rattle.reading_numbers.proofs.read_numbers.Goals as goal

pub refused-requires : goal.refused-requires
refused-requires c = search numbers

pub accepted-requires : goal.accepted-requires
accepted-requires c = search numbers

pub returns-in-Err : goal.returns-in-Err
returns-in-Err c = search numbers

pub returns-in-Ok : goal.returns-in-Ok
returns-in-Ok c = search numbers
