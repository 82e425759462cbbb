use Rattle.laid_rows.proofs.Laws.Pair.{pairing}
use Rattle.laid_rows.proofs.pair.lay_pair.Goals as goal

pub span_of-s-requires : goal.span_of-s-requires
span_of-s-requires c = search pairing

pub slice_bounds-lay_part-count : goal.slice_bounds-lay_part-count
slice_bounds-lay_part-count c = search pairing

pub slice_bounds-lay_part-start : goal.slice_bounds-lay_part-start
slice_bounds-lay_part-start c = search pairing

pub slice_bounds-lay_part-end : goal.slice_bounds-lay_part-end
slice_bounds-lay_part-end c = search pairing

pub lay_part-requires : goal.lay_part-requires
lay_part-requires c = search pairing

pub shape_of-out : goal.shape_of-out
shape_of-out c = search pairing

pub returns : goal.returns
returns c = search pairing
