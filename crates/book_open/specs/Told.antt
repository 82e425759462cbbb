-- The code's answers as the definition's ones.
-- Assumes nothing.
use Rattle.std.specs.Prelude.{ℕ, List, length, Result, Ok, Err}
use Rattle.format.specs.Outcome.{Outcome, fine, refused}
use Rattle.book.specs.Entries.{Entry}
use Rattle.book_open.specs.declared.open.Refusal.{Refusal}

-- the first pass: 21 at a row's place
abbrev pub passed_of : Result (Unit {0}) Refusal → Outcome ℕ
passed_of (Ok u) = fine 0
passed_of (Err r) = refused r.number r.place

-- the second pass: where the bodies end, or 22 at a row's place
abbrev pub ended_of : Result ℕ Refusal → Outcome ℕ
ended_of (Ok p) = fine p
ended_of (Err r) = refused r.number r.place

-- of an opened file, how many entries it has
abbrev pub entries_told : Outcome (List Entry) → Outcome ℕ
entries_told (fine es) = fine (length es)
entries_told (refused n p) = refused n p

-- the whole: how many entries, or a refusal
abbrev pub opened_of : Result ℕ Refusal → Outcome ℕ
opened_of (Ok n) = fine n
opened_of (Err r) = refused r.number r.place
