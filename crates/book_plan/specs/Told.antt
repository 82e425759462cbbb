-- The code's answers as the definition's ones.
-- Assumes nothing.
use Rattle.std.specs.Prelude.{ℕ, ◌+◌, min, List, leb, length, Option, None, Some, Result, Ok, Err}
use Rattle.format.specs.Lists.{pick, flat}
use Rattle.format.specs.Outcome.{Outcome, fine, refused, and_then}
use Rattle.book.specs.Contents.{start}
use Rattle.book.specs.Entries.{Entry, body}
use Rattle.book.specs.Written.{fitted}
use Rattle.book.specs.Given.{arranged, most_bytes}
use Rattle.book_plan.specs.declared.plan.Refusal.{Refusal}

-- the length of the book of n entries by the sum of its parts, or 24 where it is more than the room
unfoldable pub summed : List Entry → (n room : ℕ) → Outcome ℕ
summed es n room = let long = start n + length (flat body es) in pick (leb long room) (fine long) (refused 24 0)

abbrev pub fit_of : Option ℕ → Outcome ℕ
fit_of None = refused 24 0
fit_of (Some p) = fine p

-- the length of the book that is written, or 21, or 24
unfoldable pub planned : List ℕ → List ℕ → (n room : ℕ) → Outcome ℕ
planned pool rows n room = and_then (and_then (arranged pool rows n) (fitted (min room most_bytes))) (λ b. fine (length b))

abbrev pub wrote_of : Result ℕ Refusal → Outcome ℕ
wrote_of (Ok n) = fine n
wrote_of (Err r) = refused r.number r.place
