use Rattle.entry_parts.proofs.Laws.Parts.{titles}
use Rattle.entry_parts.proofs.parts.title.Goals as goal

pub returns-in_err-next : goal.returns-in_err-next
returns-in_err-next c = search titles

pub returns : goal.returns
returns c = search titles
