use Rattle.numbers.proofs.Laws.Numbers.{bytes}
use Rattle.numbers.proofs.numbers.any_next.Goals as goal

pub past_kind-a-requires : goal.past_kind-a-requires
past_kind-a-requires c = search bytes

pub returns-then-a-at : goal.returns-then-a-at
returns-then-a-at c = search bytes

pub any_byte-requires : goal.any_byte-requires
any_byte-requires c = search bytes

pub returns : goal.returns
returns c = search bytes
