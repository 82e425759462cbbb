use Rattle.book_plan.proofs.Sums.{sizes}
use Rattle.book_plan.proofs.sizes.length_in.Goals as goal

pub overflow_cast-result : goal.overflow_cast-result
overflow_cast-result c = search sizes
