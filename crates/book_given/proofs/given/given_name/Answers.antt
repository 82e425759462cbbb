use Rattle.book_given.proofs.Pool.{cells}
use Rattle.book_given.proofs.given.given_name.Goals as goal

pub returns : goal.returns
returns c = search cells
