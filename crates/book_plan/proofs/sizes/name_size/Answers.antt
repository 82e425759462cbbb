use Rattle.book_plan.proofs.Sums.{sizes}
use Rattle.book_plan.proofs.sizes.name_size.Goals as goal

pub returns : goal.returns
returns c = search sizes
