-- Small words about lists: a choice, the longest run of elements that pass a test, and what a buffer holds once rows were laid over it.
-- Assumes nothing.
use Rattle.std.specs.Prelude.{ℕ, Bool, false, true, List, [], ◌++◌, ◌∷◌, drop, length, eqb}

-- if then else, at any type
abbrev pub pick : {A : Type 0} → Bool → A → A → A
pick true a b = a
pick false a b = b

-- the longest run at the start of bytes that pass the test
unfoldable pub run : (ℕ → Bool) → List ℕ → List ℕ
run p [] = []
run p (b ∷ bs) = let r = b ∷ run p bs in pick (p b) r []

-- whether a word stands first
unfoldable pub starts : List ℕ → List ℕ → Bool
starts [] bs = true
starts (c ∷ w) [] = false
starts (c ∷ w) (b ∷ bs) = let r = starts w bs in pick (eqb c b) r false

-- what a buffer holds once rows were written at its start: they, and behind them what it held before
unfoldable pub over : List ℕ → List ℕ → List ℕ
over rows old = rows ++ drop (length rows) old

-- the rows of a list of things, one behind the other
unfoldable pub flat : {A : Type 0} → (A → List ℕ) → List A → List ℕ
flat g [] = []
flat g (a ∷ rest) = g a ++ flat g rest
