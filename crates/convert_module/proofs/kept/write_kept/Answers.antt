use Rattle.convert_module.proofs.WriteLaws.{keeping}
use Rattle.convert_module.proofs.kept.write_kept.Goals as goal

pub slice_bounds-write_with-end : goal.slice_bounds-write_with-end
slice_bounds-write_with-end c = search keeping

pub slice_bounds-write_with-end-2 : goal.slice_bounds-write_with-end-2
slice_bounds-write_with-end-2 c = search keeping

pub slice_bounds-write_with-end-3 : goal.slice_bounds-write_with-end-3
slice_bounds-write_with-end-3 c = search keeping

pub write_with-requires : goal.write_with-requires
write_with-requires c = search keeping

pub shape_of-out : goal.shape_of-out
shape_of-out c = search keeping

pub returns : goal.returns
returns c = search keeping
