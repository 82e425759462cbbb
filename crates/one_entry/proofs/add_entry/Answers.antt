use Rattle.one_entry.proofs.EntryLaws.{adding}
use Rattle.one_entry.proofs.add_entry.Goals as goal

pub enum_told-1 : goal.enum_told-1
enum_told-1 c = search adding

pub room-requires : goal.room-requires
room-requires c = search adding

pub enum_known-entry : goal.enum_known-entry
enum_known-entry c = search adding

pub returns-then-na-ge-AREAS : goal.returns-then-na-ge-AREAS
returns-then-na-ge-AREAS c = search adding

pub put_area-requires : goal.put_area-requires
put_area-requires c = search adding

pub overflow_add-na : goal.overflow_add-na
overflow_add-na c = search adding

pub room-requires-in-Area : goal.room-requires-in-Area
room-requires-in-Area c = search adding

pub enum_known-entry-in-Symbol-1 : goal.enum_known-entry-in-Symbol-1
enum_known-entry-in-Symbol-1 c = search adding

pub returns-then-ns-ge-SYMBOLS : goal.returns-then-ns-ge-SYMBOLS
returns-then-ns-ge-SYMBOLS c = search adding

pub put_symbol-requires : goal.put_symbol-requires
put_symbol-requires c = search adding

pub overflow_add-ns : goal.overflow_add-ns
overflow_add-ns c = search adding

pub room-requires-in-Symbol : goal.room-requires-in-Symbol
room-requires-in-Symbol c = search adding

pub returns-in-Ignored : goal.returns-in-Ignored
returns-in-Ignored c = search adding

pub returns-else-na-ge-AREAS : goal.returns-else-na-ge-AREAS
returns-else-na-ge-AREAS c = search adding

pub shape_of-symbols : goal.shape_of-symbols
shape_of-symbols c = search adding

pub returns-else-ns-ge-SYMBOLS : goal.returns-else-ns-ge-SYMBOLS
returns-else-ns-ge-SYMBOLS c = search adding
