use Rattle.book_plan.proofs.Sums.{sizes}
use Rattle.book_plan.proofs.sizes.values_size.Goals as goal

pub returns : goal.returns
returns c = search sizes
