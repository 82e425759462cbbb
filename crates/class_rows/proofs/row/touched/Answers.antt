use Rattle.class_rows.proofs.RowLaws.{rows}
use Rattle.class_rows.proofs.row.touched.Goals as goal

pub row_of-row-requires : goal.row_of-row-requires
row_of-row-requires c = search rows

pub enum_told-1 : goal.enum_told-1
enum_told-1 c = search rows

pub returns-in_default : goal.returns-in_default
returns-in_default c = search rows

pub returns-then-three : goal.returns-then-three
returns-then-three c = search rows

pub returns-else-three : goal.returns-else-three
returns-else-three c = search rows
