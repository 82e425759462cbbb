use Rattle.turns.proofs.TurnLaws.{turning}
use Rattle.turns.proofs.ending.Goals as goal

pub enum_known-standing : goal.enum_known-standing
enum_known-standing c = search turning

pub enum_known-standing-in-Barred-1 : goal.enum_known-standing-in-Barred-1
enum_known-standing-in-Barred-1 c = search turning

pub returns-in-Made : goal.returns-in-Made
returns-in-Made c = search turning

pub returns-in-Barred : goal.returns-in-Barred
returns-in-Barred c = search turning
