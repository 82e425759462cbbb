-- Addresses and indexes, by how many bytes they have.
-- Assumes nothing.
use Prim.Native.Nat.{ℕ}
use mathlib.Core.Path.{◌≡◌}
use mathlib.Core.Bool.{Bool}
use mathlib.Core.List.{List}
use borrow.Author.Rules.{rules}
use Rattle.format.specs.Number.{joined}
use Rattle.format.specs.Got.{Got}
use Rattle.header.specs.Told.{more_of}
use Rattle.header.specs.declared.Width.{Width}
use Rattle.joined_bytes.proofs.Laws.Joined.{index_is}

-- the arm of the width
pub width_is : (radix : ℕ) (big : Bool) (s : List ℕ) (at : ℕ) {w m : Width} {r : Got ℕ} → w ≡ m → r ≡ joined radix big (more_of m) s at → r ≡ joined radix big (more_of w) s at
width_is radix big s at e f = rw e f

pub ruleset widths = (rules, width_is, index_is)
