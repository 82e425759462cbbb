use Rattle.work.proofs.WorkLaws.{stepping, has_room, turn-steps}
use Rattle.work.proofs.work_in.Goals as goal

pub returns-then-runs_past : goal.returns-then-runs_past
returns-then-runs_past c = search stepping

pub returns : goal.returns
returns c = turn-steps _ _ _ _ _ _ _ _ c.class_of-class.ensures c.runs_past.ensures c.if-runs_past.false c.apply.ensures c.in_ok-x.was c.push.ensures.0 c.push.ensures.1 c.push.ensures.2
