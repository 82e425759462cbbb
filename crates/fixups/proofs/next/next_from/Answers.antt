use Rattle.fixups.proofs.NextLaws.{onward}
use Rattle.fixups.proofs.next.next_from.Goals as goal

pub returns-then-e-x : goal.returns-then-e-x
returns-then-e-x c = search onward

pub next_at-requires : goal.next_at-requires
next_at-requires c = search onward

pub returns : goal.returns
returns c = search onward
