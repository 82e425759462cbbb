use Rattle.turns.proofs.TurnLaws.{turning}
use Rattle.turns.proofs.two_of.Goals as goal

pub enum_known-u : goal.enum_known-u
enum_known-u c = search turning

pub enum_known-u-in-Goes-1 : goal.enum_known-u-in-Goes-1
enum_known-u-in-Goes-1 c = search turning

pub ending-requires : goal.ending-requires
ending-requires c = search turning

pub returns-in-Done : goal.returns-in-Done
returns-in-Done c = search turning

pub returns-in-Goes : goal.returns-in-Goes
returns-in-Goes c = search turning
