use Rattle.change_answer.proofs.Laws.{room}
use Rattle.change_answer.proofs.has_room.Goals as goal

pub returns : goal.returns
returns c = search room
