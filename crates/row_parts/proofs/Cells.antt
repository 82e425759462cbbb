-- A law of parts.
-- Assumes nothing.
use Prim.Native.Nat.{ℕ, ◌<◌}
use mathlib.Core.Path.{◌≡◌}
use mathlib.Core.List.{List, []}
use lib.ListN.{length}
use borrow.Author.Tests.{lt-leb}
use Rattle.row_parts.specs.Parts.{part_of}

-- from behind the end there is nothing
pub part-past : (s : List ℕ) (a n : ℕ) → length s < a → [] ≡ part_of s a n
unfolding part_of
part-past s a n h = rw (lt-leb a (length s) h)
