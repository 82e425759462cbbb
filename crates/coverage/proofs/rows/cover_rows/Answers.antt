use Rattle.coverage.proofs.RowLaws.{covering}
use Rattle.coverage.proofs.rows.cover_rows.Goals as goal

pub fill_bytes-requires : goal.fill_bytes-requires
fill_bytes-requires c = search covering

pub mark_rows-requires : goal.mark_rows-requires
mark_rows-requires c = search covering

pub unwritten-requires : goal.unwritten-requires
unwritten-requires c = search covering

pub shape_of-map : goal.shape_of-map
shape_of-map c = search covering

pub returns : goal.returns
returns c = search covering
