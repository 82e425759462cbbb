use Rattle.planning.proofs.Plans.{planning}
use Rattle.planning.proofs.next.one_more.Goals as goal

pub overflow_add-result : goal.overflow_add-result
overflow_add-result c = search planning

pub returns-then-n-lt18446744073709551615 : goal.returns-then-n-lt18446744073709551615
returns-then-n-lt18446744073709551615 c = search planning

pub returns-else-n-lt18446744073709551615 : goal.returns-else-n-lt18446744073709551615
returns-else-n-lt18446744073709551615 c = search planning
