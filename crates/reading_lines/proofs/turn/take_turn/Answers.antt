use Rattle.reading_lines.proofs.GroupTwo.{turns}
use Rattle.reading_lines.proofs.Carrying.{carried-leave}
use Rattle.reading_lines.proofs.GroupTwo.{ready-low, turn-ready, turn-places, turn-carries, columns-then, lending}
use Rattle.reading_lines.proofs.turn.take_turn.Goals as goal

pub pair_step-step-requires : goal.pair_step-step-requires
pair_step-step-requires c = search turns

pub plan_of-plan-requires : goal.plan_of-plan-requires
plan_of-plan-requires c = search turns

pub enum_known-plan : goal.enum_known-plan
enum_known-plan c = search turns

pub enum_told-1 : goal.enum_told-1
enum_told-1 c = search turns

pub turn_of-requires : goal.turn_of-requires
turn_of-requires c = search turns

pub returns-in_default : goal.returns-in_default
returns-in_default c = (search turns, search lending, carried-leave c.args.form _ _ c.pair_step-step.result c.args.g c.plan_of-plan.ensures c.in_default.is c.turn_of.ensures)

pub place_body-requires : goal.place_body-requires
place_body-requires c = turn-ready c.args.form c.requires.0 c.pair_step-step.ensures.pair_step_is c.plan_of-plan.ensures c.in-Place.is c.requires.3 (ready-low c.requires.0 c.requires.1) c.requires.2

pub shape_of-areas : goal.shape_of-areas
shape_of-areas c = search turns

pub shape_of-values : goal.shape_of-values
shape_of-values c = search turns

pub shape_of-masks : goal.shape_of-masks
shape_of-masks c = search turns

pub shape_of-rows : goal.shape_of-rows
shape_of-rows c = search turns

pub returns : goal.returns
returns c =
    let low = ready-low c.requires.0 c.requires.1 in (
      turn-places c.args.form c.requires.0 c.pair_step-step.ensures.pair_step_is c.plan_of-plan.ensures c.in-Place.is c.requires.3 low _ c.place_body.ensures.0,
      columns-then _ _ _ c.requires.3 c.pair_step-step.ensures.left_at,
      turn-carries c.args.form c.requires.0 c.pair_step-step.ensures.pair_step_is c.plan_of-plan.ensures c.in-Place.is c.requires.3 low c.place_body.ensures.1,
    )
