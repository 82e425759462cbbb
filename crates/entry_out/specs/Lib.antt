pub mod EntryOut
