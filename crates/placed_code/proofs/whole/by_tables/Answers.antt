use Rattle.placed_code.proofs.WholeLaws.{by-tables}
use Rattle.placed_code.proofs.whole.by_tables.Goals as goal

pub tables_of-t-requires : goal.tables_of-t-requires
tables_of-t-requires c = search by-tables

pub place_rows-requires : goal.place_rows-requires
place_rows-requires c = search by-tables

pub shape_of-out : goal.shape_of-out
shape_of-out c = search by-tables

pub returns : goal.returns
returns c = search by-tables
