use Rattle.fixups.proofs.AddLaws.{adding}
use Rattle.fixups.proofs.row.add.Goals as goal

pub returns-in-Missing : goal.returns-in-Missing
returns-in-Missing c = search adding

pub returns-in-Nothing : goal.returns-in-Nothing
returns-in-Nothing c = search adding

pub returns-in-To : goal.returns-in-To
returns-in-To c = search adding
