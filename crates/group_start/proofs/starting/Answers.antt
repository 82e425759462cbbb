use Rattle.group_start.proofs.StartLaws.{beginning}
use Rattle.group_start.proofs.starting.Goals as goal

pub going_at-requires : goal.going_at-requires
going_at-requires c = search beginning

pub returns-then-total-gt-IMAGE_ROOM : goal.returns-then-total-gt-IMAGE_ROOM
returns-then-total-gt-IMAGE_ROOM c = search beginning

pub going_at-requires-2 : goal.going_at-requires-2
going_at-requires-2 c = search beginning

pub returns : goal.returns
returns c = search beginning
