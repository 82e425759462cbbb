use Rattle.placed_code.proofs.FoundLaws.{by-group}
use Rattle.placed_code.proofs.found.tables_at.Goals as goal

pub bytes_of-width-requires : goal.bytes_of-width-requires
bytes_of-width-requires c = search by-group

pub group_one-requires : goal.group_one-requires
group_one-requires c = search by-group

pub enum_told-1 : goal.enum_told-1
enum_told-1 c = search by-group

pub none_found-requires : goal.none_found-requires
none_found-requires c = search by-group

pub enum_told-in-TooLong : goal.enum_told-in-TooLong
enum_told-in-TooLong c = search by-group

pub none_found-requires-in-TooLong : goal.none_found-requires-in-TooLong
none_found-requires-in-TooLong c = search by-group

pub enum_known-found : goal.enum_known-found
enum_known-found c = search by-group

pub returns-in-Refused : goal.returns-in-Refused
returns-in-Refused c = search by-group

pub returns-in-TooLong : goal.returns-in-TooLong
returns-in-TooLong c = search by-group

pub returns-in-Done : goal.returns-in-Done
returns-in-Done c = search by-group
