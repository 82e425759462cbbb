use Rattle.quick_numbers.proofs.Laws.{numbers}
use Rattle.quick_numbers.proofs.parse_number.Goals as goal

pub lone_zero-requires : goal.lone_zero-requires
lone_zero-requires c = search numbers

pub overflow_add-result : goal.overflow_add-result
overflow_add-result c = search numbers

pub returns-then-lone_zero : goal.returns-then-lone_zero
returns-then-lone_zero c = search numbers

pub any_number-requires : goal.any_number-requires
any_number-requires c = search numbers

pub returns : goal.returns
returns c = search numbers
