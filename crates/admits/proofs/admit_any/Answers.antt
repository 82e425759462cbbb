use Rattle.admits.proofs.Laws.{lending}
use Rattle.admits.proofs.admit_any.Goals as goal

pub slice_bounds-admit_any_with-end : goal.slice_bounds-admit_any_with-end
slice_bounds-admit_any_with-end c = search lending

pub slice_bounds-admit_any_with-end-2 : goal.slice_bounds-admit_any_with-end-2
slice_bounds-admit_any_with-end-2 c = search lending

pub slice_bounds-admit_any_with-end-3 : goal.slice_bounds-admit_any_with-end-3
slice_bounds-admit_any_with-end-3 c = search lending

pub slice_bounds-admit_any_with-end-4 : goal.slice_bounds-admit_any_with-end-4
slice_bounds-admit_any_with-end-4 c = search lending

pub slice_bounds-admit_any_with-end-5 : goal.slice_bounds-admit_any_with-end-5
slice_bounds-admit_any_with-end-5 c = search lending

pub admit_any_with-requires : goal.admit_any_with-requires
admit_any_with-requires c = search lending

pub returns : goal.returns
returns c = search lending
