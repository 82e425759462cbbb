use Rattle.changes_of.proofs.Answers.{owning, changed-is}
use Rattle.changes_of.proofs.changes_of.Goals as goal

pub slice_bounds-compare_in-end : goal.slice_bounds-compare_in-end
slice_bounds-compare_in-end c = search owning

pub slice_bounds-compare_in-end-2 : goal.slice_bounds-compare_in-end-2
slice_bounds-compare_in-end-2 c = search owning

pub slice_bounds-compare_in-end-3 : goal.slice_bounds-compare_in-end-3
slice_bounds-compare_in-end-3 c = search owning

pub slice_bounds-compare_in-end-4 : goal.slice_bounds-compare_in-end-4
slice_bounds-compare_in-end-4 c = search owning

pub slice_bounds-compare_in-end-5 : goal.slice_bounds-compare_in-end-5
slice_bounds-compare_in-end-5 c = search owning

pub slice_bounds-compare_in-end-6 : goal.slice_bounds-compare_in-end-6
slice_bounds-compare_in-end-6 c = search owning

pub slice_bounds-compare_in-end-7 : goal.slice_bounds-compare_in-end-7
slice_bounds-compare_in-end-7 c = search owning

pub slice_bounds-compare_in-end-8 : goal.slice_bounds-compare_in-end-8
slice_bounds-compare_in-end-8 c = search owning

pub slice_bounds-compare_in-end-9 : goal.slice_bounds-compare_in-end-9
slice_bounds-compare_in-end-9 c = search owning

pub slice_bounds-compare_in-end-10 : goal.slice_bounds-compare_in-end-10
slice_bounds-compare_in-end-10 c = search owning

pub compare_in-requires : goal.compare_in-requires
compare_in-requires c = search owning

pub shape_of-list : goal.shape_of-list
shape_of-list c = search owning

pub returns : goal.returns
returns c = changed-is _ _ _ c.compare_in.ensures
