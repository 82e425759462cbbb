use Rattle.class_rows.proofs.RowLaws.{rows}
use Rattle.class_rows.proofs.row.gives.Goals as goal

pub enum_told-1 : goal.enum_told-1
enum_told-1 c = search rows

pub enum_told-in-Byte : goal.enum_told-in-Byte
enum_told-in-Byte c = search rows

pub returns-in-Other : goal.returns-in-Other
returns-in-Other c = search rows

pub returns-in-Byte : goal.returns-in-Byte
returns-in-Byte c = search rows

pub returns-in_default : goal.returns-in_default
returns-in_default c = search rows
