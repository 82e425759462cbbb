use Rattle.turns.proofs.TurnLaws.{turning}
use Rattle.turns.proofs.turn_of.Goals as goal

pub enum_known-plan : goal.enum_known-plan
enum_known-plan c = search turning

pub enum_known-plan-in-Place-1 : goal.enum_known-plan-in-Place-1
enum_known-plan-in-Place-1 c = search turning

pub after-requires : goal.after-requires
after-requires c = search turning

pub returns-in-Leave : goal.returns-in-Leave
returns-in-Leave c = search turning

pub returns-in-Place : goal.returns-in-Place
returns-in-Place c = search turning
