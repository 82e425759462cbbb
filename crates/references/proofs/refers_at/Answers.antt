use Rattle.references.proofs.Laws.{looking}
use Rattle.references.proofs.refers_at.Goals as goal

pub returns-then-at-e : goal.returns-then-at-e
returns-then-at-e c = search looking

pub returns-then-not-gives_fixup : goal.returns-then-not-gives_fixup
returns-then-not-gives_fixup c = search looking

pub returns : goal.returns
returns c = search looking
