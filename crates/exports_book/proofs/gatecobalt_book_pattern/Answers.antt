use Rattle.exports_book.proofs.Laws.{numbers}
use Rattle.exports_book.proofs.gatecobalt_book_pattern.Goals as goal

pub copy_pattern-requires : goal.copy_pattern-requires
copy_pattern-requires c = search numbers

pub copied_numbers-requires : goal.copied_numbers-requires
copied_numbers-requires c = search numbers

pub shape_of-values : goal.shape_of-values
shape_of-values c = search numbers

pub shape_of-masks : goal.shape_of-masks
shape_of-masks c = search numbers

pub returns : goal.returns
returns c = search numbers
