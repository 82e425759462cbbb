use Rattle.line_halt.proofs.Laws.GroupOne.{entries}
use Rattle.line_halt.proofs.group_one.entry_halt.Goals as goal

pub returns-then-byte_at-eq65 : goal.returns-then-byte_at-eq65
returns-then-byte_at-eq65 c = search entries

pub returns-in-Ok : goal.returns-in-Ok
returns-in-Ok c = search entries

pub returns-in-Err : goal.returns-in-Err
returns-in-Err c = search entries
