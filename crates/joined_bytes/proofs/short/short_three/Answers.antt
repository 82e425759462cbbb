use Rattle.joined_bytes.proofs.Laws.Joins.{joins}
use Rattle.joined_bytes.proofs.short.short_three.Goals as goal

pub returns : goal.returns
returns c = search joins
