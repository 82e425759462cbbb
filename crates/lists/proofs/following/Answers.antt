use Rattle.lists.proofs.Laws.Begun.{onward}
use Rattle.lists.proofs.following.Goals as goal

pub returns-then-t-at : goal.returns-then-t-at
returns-then-t-at c = search onward
