use Rattle.laid_field.proofs.Laws.{fielding}
use Rattle.laid_field.proofs.field.lay_field.Goals as goal

pub returns-in-None : goal.returns-in-None
returns-in-None c = search fielding

pub returns-in-Some : goal.returns-in-Some
returns-in-Some c = search fielding
