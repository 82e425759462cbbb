-- The code's answer as the definition's one.
-- Assumes nothing.
use Rattle.std.specs.Prelude.{Option, None, Some}
use Rattle.format.specs.Outcome.{Outcome, fine, refused}
use Rattle.book.specs.Found as the
use Rattle.book_find.specs.declared.Found.{Found}

-- where a pattern stands, or 23
abbrev pub found_of : Option Found → Outcome the.Found
found_of (Some f) = fine (record { at = f.place; size = f.size })
found_of None = refused 23 0
