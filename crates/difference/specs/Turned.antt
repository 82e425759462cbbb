-- The sides of a change exchanged.
-- Assumes nothing.
use mathlib.Core.List.{List, [], ◌∷◌, Memᴰ}
use Rattle.difference.specs.Changes.{Change, Side, area, fixup, newer, older, position, symbol, value}

abbrev pub other : Side → Side
other older = newer
other newer = older

unfoldable pub turned : Change → Change
turned (position id at c d) = position id at d c
turned (fixup s id i) = fixup (other s) id i
turned (area s id) = area (other s) id
turned (value i j) = value j i
turned (symbol s i) = symbol (other s) i

-- no row stands twice
abbrev pub Once : List Change → Type 0
Once [] = Unit {0}
Once (c ∷ cs) = (Memᴰ c cs → ⊥) × Once cs
