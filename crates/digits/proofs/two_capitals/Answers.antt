use Rattle.digits.proofs.Laws.{capital}
use Rattle.digits.proofs.two_capitals.Goals as goal

pub hex_of-d-requires : goal.hex_of-d-requires
hex_of-d-requires c = search capital

pub hex_of-e-requires : goal.hex_of-e-requires
hex_of-e-requires c = search capital

pub returns-then-d-gt15 : goal.returns-then-d-gt15
returns-then-d-gt15 c = search capital

pub returns-then-e-gt15 : goal.returns-then-e-gt15
returns-then-e-gt15 c = search capital

pub overflow_mul-result : goal.overflow_mul-result
overflow_mul-result c = search capital

pub overflow_add-result : goal.overflow_add-result
overflow_add-result c = search capital

pub returns : goal.returns
returns c = search capital
