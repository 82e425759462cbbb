use Rattle.book_write.proofs.Laying.{laying}
use Rattle.book_write.proofs.lay.put_book.Goals as goal

pub put_number-requires : goal.put_number-requires
put_number-requires c = search laying

pub put_contents-requires : goal.put_contents-requires
put_contents-requires c = search laying

pub put_bodies-requires : goal.put_bodies-requires
put_bodies-requires c = search laying

pub shape_of-out : goal.shape_of-out
shape_of-out c = search laying

pub returns : goal.returns
returns c = search laying
