use Rattle.entry_line.proofs.Laws.Entries.{entries}
use Rattle.entry_line.proofs.entries.parse_entry.Goals as goal

pub byte_at-requires : goal.byte_at-requires
byte_at-requires c = search entries

pub letter_of-requires : goal.letter_of-requires
letter_of-requires c = search entries

pub enum_told-1 : goal.enum_told-1
enum_told-1 c = search entries

pub parse_area-requires : goal.parse_area-requires
parse_area-requires c = search entries

pub enum_told-in-Symbol : goal.enum_told-in-Symbol
enum_told-in-Symbol c = search entries

pub parse_symdefref-requires : goal.parse_symdefref-requires
parse_symdefref-requires c = search entries

pub enum_told-in-Other : goal.enum_told-in-Other
enum_told-in-Other c = search entries

pub ignored_entry-requires : goal.ignored_entry-requires
ignored_entry-requires c = search entries

pub returns-in-Area : goal.returns-in-Area
returns-in-Area c = search entries

pub returns-in-Symbol : goal.returns-in-Symbol
returns-in-Symbol c = search entries

pub returns-in-Other : goal.returns-in-Other
returns-in-Other c = search entries
