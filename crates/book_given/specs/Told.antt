-- The code's answer as the definition's one.
-- Assumes nothing.
use Rattle.std.specs.Prelude.{ℕ, Option, None, Some}
use Rattle.format.specs.Outcome.{Outcome, fine, refused}

-- 21 at the number of an entry
abbrev pub twice_of : Option ℕ → Outcome ℕ
twice_of None = fine 0
twice_of (Some k) = refused 21 k
