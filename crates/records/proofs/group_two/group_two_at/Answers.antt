use Rattle.records.proofs.Gates.{grouping}
use Rattle.records.proofs.group_two.group_two_at.Goals as goal

pub loop-next-init : goal.loop-next-init
loop-next-init c = search grouping

pub entry_step-step-requires : goal.entry_step-step-requires
entry_step-step-requires c = search grouping

pub enum_known-step : goal.enum_known-step
enum_known-step c = search grouping

pub enum_told-1 : goal.enum_told-1
enum_told-1 c = search grouping

pub returns-in_default : goal.returns-in_default
returns-in_default c = search grouping

pub loop-next-smaller : goal.loop-next-smaller
loop-next-smaller c = search grouping

pub loop-next-preserved : goal.loop-next-preserved
loop-next-preserved c = search grouping
