use Rattle.ended.proofs.Laws.{answers, ends}
use Rattle.ended.proofs.read_ended.Goals as goal

pub read_ended-answer-requires : goal.read_ended-answer-requires
read_ended-answer-requires c = search ends

pub beside-requires : goal.beside-requires
beside-requires c = search ends

pub shape_of-areas : goal.shape_of-areas
shape_of-areas c = search ends

pub shape_of-symbols : goal.shape_of-symbols
shape_of-symbols c = search ends

pub shape_of-values : goal.shape_of-values
shape_of-values c = search ends

pub shape_of-masks : goal.shape_of-masks
shape_of-masks c = search ends

pub shape_of-fixups : goal.shape_of-fixups
shape_of-fixups c = search ends

pub returns : goal.returns
returns c = answers c.read_ended-answer.ensures c.beside.ensures
