-- A line as the manual shows it: words with one space between them.
-- Assumes nothing.
use Rattle.std.specs.Prelude.{ℕ, List, [], ◌++◌, ◌∷◌}

-- words, each behind one space
abbrev pub spaced : List (List ℕ) → List ℕ
spaced [] = []
spaced (w ∷ ws) = 32 ∷ (w ++ spaced ws)

-- words with one space between them
abbrev pub words : List (List ℕ) → List ℕ
words [] = []
words (w ∷ ws) = w ++ spaced ws
