use Rattle.convert_module.proofs.WholeLaws.{lending}
use Rattle.convert_module.proofs.whole.convert.Goals as goal

pub slice_bounds-convert_with-end : goal.slice_bounds-convert_with-end
slice_bounds-convert_with-end c = search lending

pub slice_bounds-convert_with-end-2 : goal.slice_bounds-convert_with-end-2
slice_bounds-convert_with-end-2 c = search lending

pub slice_bounds-convert_with-end-3 : goal.slice_bounds-convert_with-end-3
slice_bounds-convert_with-end-3 c = search lending

pub slice_bounds-convert_with-end-4 : goal.slice_bounds-convert_with-end-4
slice_bounds-convert_with-end-4 c = search lending

pub slice_bounds-convert_with-end-5 : goal.slice_bounds-convert_with-end-5
slice_bounds-convert_with-end-5 c = search lending

pub convert_with-requires : goal.convert_with-requires
convert_with-requires c = search lending

pub shape_of-out : goal.shape_of-out
shape_of-out c = search lending

pub returns : goal.returns
returns c = search lending
