use Rattle.symbol_changes.proofs.Names.{alls}
use Rattle.symbol_changes.proofs.walk.Goals as goal

pub slice_bounds-index_names-end : goal.slice_bounds-index_names-end
slice_bounds-index_names-end c = search alls

pub index_names-requires : goal.index_names-requires
index_names-requires c = search alls

pub slice_bounds-index_names-end-2 : goal.slice_bounds-index_names-end-2
slice_bounds-index_names-end-2 c = search alls

pub index_names-requires-2 : goal.index_names-requires-2
index_names-requires-2 c = search alls

pub old_symbols-count-requires : goal.old_symbols-count-requires
old_symbols-count-requires c = search alls

pub new_symbols-requires : goal.new_symbols-requires
new_symbols-requires c = search alls

pub shape_of-list : goal.shape_of-list
shape_of-list c = search alls

pub returns : goal.returns
returns c = search alls
