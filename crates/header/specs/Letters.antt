-- A step of the code on the way to the header: its letters at a place.
-- Assumes nothing.
use Rattle.std.specs.Prelude.{ℕ, ◌+◌, List, drop}
use Rattle.std.proofs.Math.Option.{Option, none, some}
use Rattle.format.specs.Header as the

-- a header's place in the whole
abbrev pub shifted : ℕ → Option the.Head → Option the.Head
shifted n none = none
shifted n (some h) = some (record { form = h.form; next = n + h.next })

-- the header's letters at a place, and the place behind their blanks
unfoldable pub letters_at : List ℕ → ℕ → Option the.Head
letters_at s p = shifted p (the.letters (drop p s))
