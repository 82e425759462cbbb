-- The words that ask for help.
-- Assumes nothing.
use Rattle.std.specs.Prelude.{ℕ, List, [], ◌∷◌}

-- -h
abbrev pub short : List ℕ
short = 45 ∷ 104 ∷ []

-- --help
abbrev pub long : List ℕ
long = 45 ∷ 45 ∷ 104 ∷ 101 ∷ 108 ∷ 112 ∷ []
