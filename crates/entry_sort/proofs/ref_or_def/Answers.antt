use Rattle.entry_sort.proofs.Laws.{refs}
use Rattle.entry_sort.proofs.ref_or_def.Goals as goal

pub returns-then-a-at : goal.returns-then-a-at
returns-then-a-at c = search refs

pub returns-then-b-at : goal.returns-then-b-at
returns-then-b-at c = search refs

pub returns : goal.returns
returns c = search refs
