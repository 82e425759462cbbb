use Rattle.scan.proofs.Laws.Tests.{tests}
use Rattle.numbers.proofs.numbers.number_from.Goals as goal

pub returns-then-next-at : goal.returns-then-next-at
returns-then-next-at c = search tests

pub overflow_cast-result : goal.overflow_cast-result
overflow_cast-result c = search tests

pub returns-then-v-lt4294967296 : goal.returns-then-v-lt4294967296
returns-then-v-lt4294967296 c = search tests

pub returns : goal.returns
returns c = search tests
