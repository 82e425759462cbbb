pub mod EntriesOut
