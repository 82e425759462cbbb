-- What a buffer holds once a list was stored at its start.
-- Assumes nothing.
use Prim.Native.Nat.{◌+◌, ◌≤◌, ℕ}
use mathlib.Core.Path.{◌≡◌, ◌∙◌}
use mathlib.Core.List.{List, ◌++◌}
use native.Mathlib.Omega.{arith}
use native.Mathlib.Nat.{zero-add}
use lib.ListN.{length, drop}
use lib.Seq.{sets, sets-eq}

pub laid : (xs room : List ℕ) → length xs ≤ length room → sets room 0 xs ≡ xs ++ drop (length xs) room
laid xs room h = let z : 0 + length xs ≡ length xs = zero-add (length xs) in sets-eq xs room 0 (omega arith) ∙ rw z
