use Rattle.records.proofs.Whole.{reading-pairs}
use Rattle.records.proofs.read_pairs.Goals as goal

pub has_room-requires : goal.has_room-requires
has_room-requires c = search reading-pairs

pub returns-then-not-has_room : goal.returns-then-not-has_room
returns-then-not-has_room c = search reading-pairs

pub admit-gate-requires : goal.admit-gate-requires
admit-gate-requires c = search reading-pairs

pub before_laying-requires : goal.before_laying-requires
before_laying-requires c = search reading-pairs

pub returns-in_default : goal.returns-in_default
returns-in_default c = search reading-pairs

pub lay_text-requires : goal.lay_text-requires
lay_text-requires c = search reading-pairs

pub shape_of-pairs : goal.shape_of-pairs
shape_of-pairs c = search reading-pairs

pub shape_of-content : goal.shape_of-content
shape_of-content c = search reading-pairs

pub shape_of-fragments : goal.shape_of-fragments
shape_of-fragments c = search reading-pairs

pub returns : goal.returns
returns c = search reading-pairs
