use Rattle.records.proofs.Turns.{turn-stores, turning}
use Rattle.reading_lines.proofs.GroupTwo.{columns-then, lending}
use Rattle.records.proofs.walk.take_pair.Goals as goal

pub pair_step-step-requires : goal.pair_step-step-requires
pair_step-step-requires c = search turning

pub enum_known-step : goal.enum_known-step
enum_known-step c = search turning

pub enum_told-1 : goal.enum_told-1
enum_told-1 c = search turning

pub returns-in_default : goal.returns-in_default
returns-in_default c = (search turning, search lending)

pub enum_known-body : goal.enum_known-body
enum_known-body c = search turning

pub enum_told-in_default-body : goal.enum_told-in_default-body
enum_told-in_default-body c = search turning

pub walked_to-requires : goal.walked_to-requires
walked_to-requires c = search turning

pub returns-in_default-body : goal.returns-in_default-body
returns-in_default-body c = (search turning, search lending)

pub store_here-walked-requires : goal.store_here-walked-requires
store_here-walked-requires c = search turning

pub shape_of-pairs : goal.shape_of-pairs
shape_of-pairs c = search turning

pub shape_of-content : goal.shape_of-content
shape_of-content c = search turning

pub shape_of-fragments : goal.shape_of-fragments
shape_of-fragments c = search turning

pub returns : goal.returns
returns c = (turn-stores c.requires.0 c.pair_step-step.ensures.pair_step_is c.in-Takes.is c.in-Placed.is c.requires.2 c.requires.1 c.store_here-walked.ensures, columns-then _ _ _ c.requires.2 c.pair_step-step.ensures.left_at)
