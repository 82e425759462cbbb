use Rattle.row_count.proofs.CountLaws.{counting}
use Rattle.row_count.proofs.count_to.Goals as goal

pub returns-in-Missing : goal.returns-in-Missing
returns-in-Missing c = search counting

pub returns-in-Nothing : goal.returns-in-Nothing
returns-in-Nothing c = search counting

pub returns-in-To : goal.returns-in-To
returns-in-To c = search counting
