use Rattle.checks.proofs.SureLaws.{surely}
use Rattle.checks.proofs.sure.counted.Goals as goal

pub overflow_mul-result : goal.overflow_mul-result
overflow_mul-result c = search surely

pub overflow_add-result-then-c-site : goal.overflow_add-result-then-c-site
overflow_add-result-then-c-site c = search surely

pub returns-then-c-site : goal.returns-then-c-site
returns-then-c-site c = search surely

pub returns-else-c-site : goal.returns-else-c-site
returns-else-c-site c = search surely
