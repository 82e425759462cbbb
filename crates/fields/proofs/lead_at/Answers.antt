use Rattle.fields.proofs.Laws.Fields.{leads}
use Rattle.fields.proofs.lead_at.Goals as goal

pub returns-then-a-at : goal.returns-then-a-at
returns-then-a-at c = search leads

pub returns-then-b-a : goal.returns-then-b-a
returns-then-b-a c = search leads

pub returns : goal.returns
returns c = search leads
