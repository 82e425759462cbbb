-- Two lines at a place: one law for each return.
-- Assumes nothing.
use Prim.Native.Nat.{ℕ, ◌<◌, ◌≤◌}
use mathlib.Core.Path.{◌≡◌, sym, ◌∙◌}
use mathlib.Core.List.{List}
use native.Mathlib.Omega.{arith}
use lib.ListN.{length, drop_of_length-le}
use borrow.Author.Rules.{rules}
use Rattle.format.specs.Lines.{end_length}
use Rattle.format.specs.Number.{past}
use Rattle.laws.specs.Places.{line_end, end_at}
use Rattle.text_lines.specs.Lines.{LineIs}
use Rattle.text_lines.specs.declared.LineAt.{LineAt}
use Rattle.pair_places.specs.Places.{PlacesAre}
use Rattle.std.specs.Prelude.{Some, None}

-- past the end there is no line end
end-past : (text : List ℕ) (p : ℕ) → length text < p → end_at text p ≡ 0
unfolding end_at line_end past end_length
end-past text p h = rw (drop_of_length-le text {i = line_end text p} (omega arith))

pub places-past : (text : List ℕ) (p : ℕ) → length text < p → PlacesAre text p None
places-past text p h = record { says = end-past text p h }

module _ (text : List ℕ) (p : ℕ) {l : LineAt} (w : LineIs text p l) where
  pub places-alone : l.ends ≡ 0 → PlacesAre text p None
  places-alone h = record { says = sym w.line-end ∙ h }

  pub places-lines : p ≤ length text → (l.ends ≡ 0 → ⊥) → {k : LineAt} → LineIs text l.next k → PlacesAre text p (Some (record { first = l; second = k }))
  places-lines o h v = record { says = record { within = o; first = w; ended = h; second = v } }

pub ruleset places = (rules, places-past, places-alone, places-lines)
