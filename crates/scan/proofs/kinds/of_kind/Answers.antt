use Rattle.scan.proofs.Laws.Kinds.{classes}
use Rattle.scan.proofs.kinds.of_kind.Goals as goal

pub returns-in-InName : goal.returns-in-InName
returns-in-InName c = search classes
