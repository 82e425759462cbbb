use Rattle.scan.proofs.Laws.Kinds.{classes}
use Rattle.scan.proofs.kinds.is_white.Goals as goal

pub returns-then-is_blank : goal.returns-then-is_blank
returns-then-is_blank c = search classes

pub returns-else-is_blank : goal.returns-else-is_blank
returns-else-is_blank c = search classes
