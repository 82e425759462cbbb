-- What was read into a room.
-- Assumes nothing.
use Rattle.std.specs.Prelude.{ℕ, ◌≤◌, Result, Ok, Err}
use Rattle.host.specs.declared.failure.Failure.{Failure}

-- no more than the room takes
abbrev pub Within : Result ℕ Failure → ℕ → Type 0
Within (Ok n) room = n ≤ room
Within (Err why) room = Unit {0}
