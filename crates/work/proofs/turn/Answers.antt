use Rattle.work.proofs.WorkLaws.{turning}
use Rattle.work.proofs.turn.Goals as goal

pub returns-then-entry-line : goal.returns-then-entry-line
returns-then-entry-line c = search turning
