use Rattle.joined_bytes.proofs.Laws.Joins.{joins}
use Rattle.joined_bytes.proofs.short.short_two.Goals as goal

pub returns : goal.returns
returns c = search joins
