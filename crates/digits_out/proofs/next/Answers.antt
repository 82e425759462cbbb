use Rattle.digits_out.proofs.Laws.{nexts}
use Rattle.digits_out.proofs.next.Goals as goal

pub overflow_add-result : goal.overflow_add-result
overflow_add-result c = search nexts

pub returns-then-at-lt18446744073709551615 : goal.returns-then-at-lt18446744073709551615
returns-then-at-lt18446744073709551615 c = search nexts

pub returns-else-at-lt18446744073709551615 : goal.returns-else-at-lt18446744073709551615
returns-else-at-lt18446744073709551615 c = search nexts
