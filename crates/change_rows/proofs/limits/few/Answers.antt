use Rattle.change_rows.proofs.Room.{fews}
use Rattle.change_rows.proofs.limits.few.Goals as goal

pub returns-then-rows-gt536870912 : goal.returns-then-rows-gt536870912
returns-then-rows-gt536870912 c = search fews

pub returns-then-m-gt1024 : goal.returns-then-m-gt1024
returns-then-m-gt1024 c = search fews

pub returns : goal.returns
returns c = search fews
