use Rattle.way_in.proofs.Laws.{fitting}
use Rattle.way_in.proofs.fits_from.Goals as goal

pub returns-then-n-at : goal.returns-then-n-at
returns-then-n-at c = search fitting

pub returns-then-n-gt-TEXT_ROOM : goal.returns-then-n-gt-TEXT_ROOM
returns-then-n-gt-TEXT_ROOM c = search fitting

pub has_room-requires : goal.has_room-requires
has_room-requires c = search fitting

pub returns : goal.returns
returns c = search fitting
