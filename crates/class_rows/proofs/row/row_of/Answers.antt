use Rattle.class_rows.proofs.RowLaws.{rows}
use Rattle.class_rows.proofs.row.row_of.Goals as goal

pub enum_told-1 : goal.enum_told-1
enum_told-1 c = search rows

pub bounds-0 : goal.bounds-0
bounds-0 c = search rows

pub enum_told-in-Addr11 : goal.enum_told-in-Addr11
enum_told-in-Addr11 c = search rows

pub bounds-1 : goal.bounds-1
bounds-1 c = search rows

pub enum_told-in-Addr24 : goal.enum_told-in-Addr24
enum_told-in-Addr24 c = search rows

pub bounds-2 : goal.bounds-2
bounds-2 c = search rows

pub enum_told-in-Addr16 : goal.enum_told-in-Addr16
enum_told-in-Addr16 c = search rows

pub bounds-3 : goal.bounds-3
bounds-3 c = search rows

pub enum_told-in-Byte : goal.enum_told-in-Byte
enum_told-in-Byte c = search rows

pub bounds-4 : goal.bounds-4
bounds-4 c = search rows

pub enum_told-in-Other : goal.enum_told-in-Other
enum_told-in-Other c = search rows

pub bounds-5 : goal.bounds-5
bounds-5 c = search rows

pub returns-in-Addr19 : goal.returns-in-Addr19
returns-in-Addr19 c = rw c.in-Addr19.is

pub returns-in-Addr11 : goal.returns-in-Addr11
returns-in-Addr11 c = rw c.in-Addr11.is

pub returns-in-Addr24 : goal.returns-in-Addr24
returns-in-Addr24 c = rw c.in-Addr24.is

pub returns-in-Addr16 : goal.returns-in-Addr16
returns-in-Addr16 c = rw c.in-Addr16.is

pub returns-in-Byte : goal.returns-in-Byte
returns-in-Byte c = rw c.in-Byte.is

pub returns-in-Other : goal.returns-in-Other
returns-in-Other c = rw c.in-Other.is
