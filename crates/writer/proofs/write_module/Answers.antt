use Rattle.writer.proofs.Laws.{good-writes, modules}
use Rattle.writer.proofs.write_module.Goals as goal

pub rows_good-requires : goal.rows_good-requires
rows_good-requires c = search modules

pub returns-then-not-rows_good : goal.returns-then-not-rows_good
returns-then-not-rows_good c = search modules

pub slice_bounds-write_with-end : goal.slice_bounds-write_with-end
slice_bounds-write_with-end c = search modules

pub write_with-requires : goal.write_with-requires
write_with-requires c = search modules

pub shape_of-out : goal.shape_of-out
shape_of-out c = search modules

pub returns : goal.returns
returns c =
    let f = c.args.form in
    good-writes f.radix f.big f.width _ c.type_inv.areas c.type_inv.symbols c.type_inv.content c.rows_good.ensures (search modules) c.write_with.ensures
