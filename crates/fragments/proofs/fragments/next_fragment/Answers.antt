use Rattle.fragments.proofs.Laws.Fragments.{following}
use Rattle.fragments.proofs.fragments.next_fragment.Goals as goal

pub returns-then-t-at : goal.returns-then-t-at
returns-then-t-at c = search following

pub returns-in-Some : goal.returns-in-Some
returns-in-Some c = search following

pub returns-in-None : goal.returns-in-None
returns-in-None c = search following
