use Rattle.coverage.proofs.CoverLaws.{by-tables}
use Rattle.coverage.proofs.whole.by_tables.Goals as goal

pub bytes_of-width-requires : goal.bytes_of-width-requires
bytes_of-width-requires c = search by-tables

pub group_one-requires : goal.group_one-requires
group_one-requires c = search by-tables

pub enum_known-number : goal.enum_known-number
enum_known-number c = search by-tables

pub enum_told-1 : goal.enum_told-1
enum_told-1 c = search by-tables

pub enum_known-found : goal.enum_known-found
enum_known-found c = search by-tables

pub by_areas-requires : goal.by_areas-requires
by_areas-requires c = search by-tables

pub returns-in-Refused : goal.returns-in-Refused
returns-in-Refused c = search by-tables

pub returns-in-TooLong : goal.returns-in-TooLong
returns-in-TooLong c = search by-tables

pub shape_of-map : goal.shape_of-map
shape_of-map c = search by-tables

pub returns-in-Done : goal.returns-in-Done
returns-in-Done c = search by-tables
