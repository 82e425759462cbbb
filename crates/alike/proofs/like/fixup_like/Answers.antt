use Rattle.alike.proofs.Looked.{likes}
use Rattle.alike.proofs.like.fixup_like.Goals as goal

pub same_fixup-requires : goal.same_fixup-requires
same_fixup-requires c = search likes

pub returns-then-same_fixup : goal.returns-then-same_fixup
returns-then-same_fixup c = search likes

pub first_like-requires : goal.first_like-requires
first_like-requires c = search likes

pub returns-then-expected-n : goal.returns-then-expected-n
returns-then-expected-n c = search likes

pub first_like-requires-2 : goal.first_like-requires-2
first_like-requires-2 c = search likes

pub returns : goal.returns
returns c = search likes
