use Rattle.entry_parts.proofs.Laws.Parts.{fields}
use Rattle.entry_parts.proofs.parts.field_at.Goals as goal

pub returns-then-a-at : goal.returns-then-a-at
returns-then-a-at c = search fields

pub returns-in_err-next : goal.returns-in_err-next
returns-in_err-next c = search fields

pub returns : goal.returns
returns c = search fields
