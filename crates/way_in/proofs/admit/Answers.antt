use Rattle.way_in.proofs.Laws.{gating}
use Rattle.way_in.proofs.admit.Goals as goal

pub has_room-requires : goal.has_room-requires
has_room-requires c = search gating

pub returns-then-not-has_room : goal.returns-then-not-has_room
returns-then-not-has_room c = search gating

pub returns-then-t-gt-TEXT_ROOM : goal.returns-then-t-gt-TEXT_ROOM
returns-then-t-gt-TEXT_ROOM c = search gating

pub first_high-h-requires : goal.first_high-h-requires
first_high-h-requires c = search gating

pub returns-then-h-t : goal.returns-then-h-t
returns-then-h-t c = search gating

pub returns : goal.returns
returns c = search gating
