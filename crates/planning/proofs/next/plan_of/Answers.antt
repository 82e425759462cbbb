use Rattle.planning.proofs.Plans.{planning}
use Rattle.planning.proofs.next.plan_of.Goals as goal

pub enum_known-step : goal.enum_known-step
enum_known-step c = search planning

pub enum_told-1 : goal.enum_told-1
enum_told-1 c = search planning

pub ending-two-requires : goal.ending-two-requires
ending-two-requires c = search planning

pub returns-in_default : goal.returns-in_default
returns-in_default c = search planning

pub enum_known-body : goal.enum_known-body
enum_known-body c = search planning

pub enum_told-in_default-body : goal.enum_told-in_default-body
enum_told-in_default-body c = search planning

pub stepped-requires : goal.stepped-requires
stepped-requires c = search planning

pub after-turn-requires : goal.after-turn-requires
after-turn-requires c = search planning

pub returns-in_default-body : goal.returns-in_default-body
returns-in_default-body c = search planning

pub address_length-requires : goal.address_length-requires
address_length-requires c = search planning

pub wide-requires : goal.wide-requires
wide-requires c = search planning

pub one_more-requires : goal.one_more-requires
one_more-requires c = search planning

pub stepped-requires-2 : goal.stepped-requires-2
stepped-requires-2 c = search planning

pub plan_placed-requires : goal.plan_placed-requires
plan_placed-requires c = search planning

pub returns : goal.returns
returns c = search planning
