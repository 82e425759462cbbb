use Rattle.way_in.proofs.Laws.{rooming}
use Rattle.way_in.proofs.has_room.Goals as goal

pub returns-then-lent-lt-AREA_ROOM : goal.returns-then-lent-lt-AREA_ROOM
returns-then-lent-lt-AREA_ROOM c = search rooming

pub returns-then-lent-lt-SYMBOL_ROOM : goal.returns-then-lent-lt-SYMBOL_ROOM
returns-then-lent-lt-SYMBOL_ROOM c = search rooming

pub returns-then-lent-lt-IMAGE_ROOM : goal.returns-then-lent-lt-IMAGE_ROOM
returns-then-lent-lt-IMAGE_ROOM c = search rooming

pub returns-then-lent-lt-IMAGE_ROOM-2 : goal.returns-then-lent-lt-IMAGE_ROOM-2
returns-then-lent-lt-IMAGE_ROOM-2 c = search rooming

pub returns : goal.returns
returns c = search rooming
