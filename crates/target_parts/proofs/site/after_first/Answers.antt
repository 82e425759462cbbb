use Rattle.target_parts.proofs.StartLaws.{starting}
use Rattle.target_parts.proofs.site.after_first.Goals as goal

pub returns-then-is_empty : goal.returns-then-is_empty
returns-then-is_empty c = search starting
