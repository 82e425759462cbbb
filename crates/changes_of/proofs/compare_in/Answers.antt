use Rattle.changes_of.proofs.Answers.{compares}
use Rattle.changes_of.proofs.compare_in.Goals as goal

pub read_ended-first-requires : goal.read_ended-first-requires
read_ended-first-requires c = search compares

pub read_newer-requires : goal.read_newer-requires
read_newer-requires c = search compares

pub shape_of-p : goal.shape_of-p
shape_of-p c = search compares

pub shape_of-f : goal.shape_of-f
shape_of-f c = search compares

pub shape_of-v : goal.shape_of-v
shape_of-v c = search compares

pub shape_of-k : goal.shape_of-k
shape_of-k c = search compares

pub shape_of-xs : goal.shape_of-xs
shape_of-xs c = search compares

pub shape_of-q : goal.shape_of-q
shape_of-q c = search compares

pub shape_of-g : goal.shape_of-g
shape_of-g c = search compares

pub shape_of-w : goal.shape_of-w
shape_of-w c = search compares

pub shape_of-l : goal.shape_of-l
shape_of-l c = search compares

pub shape_of-ys : goal.shape_of-ys
shape_of-ys c = search compares

pub shape_of-list : goal.shape_of-list
shape_of-list c = search compares

pub returns : goal.returns
returns c = search compares
