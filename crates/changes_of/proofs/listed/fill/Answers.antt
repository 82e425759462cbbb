use Rattle.changes_of.proofs.Answers.{list-fits, list-short}
use Rattle.changes_of.proofs.listed.fill.Goals as goal

pub returns-then-has_room : goal.returns-then-has_room
returns-then-has_room c = list-fits c.walk-total.ensures c.has_room.ensures c.if-has_room.true c.walk-count.ensures

pub returns : goal.returns
returns c = list-short c.walk-total.ensures c.has_room.ensures c.if-has_room.false
