use Rattle.fixups.proofs.PassLaws.{numbers}
use Rattle.fixups.proofs.pass.pair_rows.Goals as goal

pub with_numbers-here-requires : goal.with_numbers-here-requires
with_numbers-here-requires c = search numbers

pub checked_rows-requires : goal.checked_rows-requires
checked_rows-requires c = search numbers

pub shape_of-rows : goal.shape_of-rows
shape_of-rows c = search numbers

pub returns : goal.returns
returns c = search numbers
