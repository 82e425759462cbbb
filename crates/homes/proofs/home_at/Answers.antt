use Rattle.homes.proofs.Laws.{homes}
use Rattle.homes.proofs.home_at.Goals as goal

pub returns-then-n-gt64 : goal.returns-then-n-gt64
returns-then-n-gt64 c = search homes

pub returns-then-n-i : goal.returns-then-n-i
returns-then-n-i c = search homes

pub returns-then-size-eq0 : goal.returns-then-size-eq0
returns-then-size-eq0 c = search homes
