use Rattle.book_read.proofs.Laws.{laying}
use Rattle.book_read.proofs.lay_values.Goals as goal

pub returns : goal.returns
returns c = search laying
