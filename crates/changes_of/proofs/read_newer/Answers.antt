use Rattle.changes_of.proofs.Answers.{newers}
use Rattle.changes_of.proofs.read_newer.Goals as goal

pub read_ended-second-requires : goal.read_ended-second-requires
read_ended-second-requires c = search newers

pub answered-requires : goal.answered-requires
answered-requires c = search newers

pub shape_of-q : goal.shape_of-q
shape_of-q c = search newers

pub shape_of-g : goal.shape_of-g
shape_of-g c = search newers

pub shape_of-w : goal.shape_of-w
shape_of-w c = search newers

pub shape_of-l : goal.shape_of-l
shape_of-l c = search newers

pub shape_of-ys : goal.shape_of-ys
shape_of-ys c = search newers

pub shape_of-list : goal.shape_of-list
shape_of-list c = search newers

pub returns : goal.returns
returns c = search newers
