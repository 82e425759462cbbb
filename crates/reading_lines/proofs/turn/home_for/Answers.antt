use Rattle.reading_lines.proofs.GroupTwo.{bodies}
use Rattle.reading_lines.proofs.turn.home_for.Goals as goal

pub returns-then-last-area : goal.returns-then-last-area
returns-then-last-area c = search bodies

pub home_at-requires : goal.home_at-requires
home_at-requires c = search bodies

pub returns : goal.returns
returns c = search bodies
