use Rattle.turns.proofs.TurnLaws.{turning}
use Rattle.turns.proofs.after.Goals as goal

pub returns-then-g : goal.returns-then-g
returns-then-g c = search turning

pub ending-two-requires : goal.ending-two-requires
ending-two-requires c = search turning

pub returns : goal.returns
returns c = search turning
