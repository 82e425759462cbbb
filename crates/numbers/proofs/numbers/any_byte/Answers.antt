use Rattle.numbers.proofs.Laws.Numbers.{bytes}
use Rattle.format.specs.Number.{byte}
use Rattle.numbers.proofs.numbers.any_byte.Goals as goal

pub returns-in_err-n : goal.returns-in_err-n
returns-in_err-n c = search bytes

pub returns-then-n-lt256 : goal.returns-then-n-lt256
unfolding byte
returns-then-n-lt256 c = search bytes

pub returns : goal.returns
unfolding byte
returns c = search bytes
