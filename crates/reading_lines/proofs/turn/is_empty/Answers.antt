use Rattle.reading_lines.proofs.GroupTwo.{bodies}
use Rattle.reading_lines.proofs.turn.is_empty.Goals as goal

pub returns-then-line-eq0 : goal.returns-then-line-eq0
returns-then-line-eq0 c = search bodies

pub returns : goal.returns
returns c = search bodies
