use Rattle.entry_line.proofs.Laws.Entries.{entries, ignored-2}
use Rattle.entry_line.proofs.entries.ignored_entry.Goals as goal

pub returns-in_err-next : goal.returns-in_err-next
returns-in_err-next c = search entries

pub returns : goal.returns
returns c = ignored-2 _ c.ignore_line.ensures c.in_ok-next.was
