use Rattle.fixup_changes.proofs.Lacks.{lacks}
use Rattle.fixup_changes.proofs.fixup.Goals as goal

pub overflow_add-result : goal.overflow_add-result
overflow_add-result c = search lacks

pub returns-then-j-n : goal.returns-then-j-n
returns-then-j-n c = search lacks

pub returns-then-lies_in : goal.returns-then-lies_in
returns-then-lies_in c = search lacks

pub returns : goal.returns
returns c = search lacks
