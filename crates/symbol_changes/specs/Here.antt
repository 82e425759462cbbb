-- The rule at one symbol, by rows.
-- Assumes nothing.
use Rattle.std.specs.Prelude.{ℕ, suc, zero, Bool, List, [], ◌∷◌, ◌++◌, eqb, ltb}
use Rattle.std.proofs.Math.Option.{Option, none, some}
use Rattle.format.specs.Lists.{pick}
use Rattle.laws.specs.Rows.{symbol_at}
use Rattle.difference.specs.Module.{At, Named}
use Rattle.difference.specs.Changes.{Change, only_new, value, value_change}
use Rattle.alike.specs.Looked.{first_of}
use Rattle.name_index.specs.Index.{name_at, named_at}

-- symbol j with its name
unfoldable pub symbol_here : (text symbols : List ℕ) → ℕ → At Named
symbol_here text symbols j = record { index = j; it = record { name = name_at text symbols j; value = (symbol_at symbols j).value } }

-- the first of n symbols that has this name, if there is one
unfoldable pub first_in : (name text symbols : List ℕ) → ℕ → Option (At Named)
first_in name text symbols n =
    let j = first_of (named_at name text symbols) n in
    pick (ltb j n) (some (symbol_here text symbols j)) none

-- whether symbol i is the first of its name
unfoldable pub is_first : (text symbols : List ℕ) (n i : ℕ) → Bool
is_first text symbols n i = eqb (first_of (named_at (name_at text symbols i) text symbols) n) i

-- symbol i of the older side
unfoldable pub old_here : (s xs : List ℕ) (nx : ℕ) (t ys : List ℕ) (ny : ℕ) → ℕ → List Change
old_here s xs nx t ys ny i = pick (is_first s xs nx i) (value_change (symbol_here s xs i) (first_in (name_at s xs i) t ys ny)) []

-- symbol i of the newer side
unfoldable pub new_here : (t ys : List ℕ) (ny : ℕ) (s xs : List ℕ) (nx : ℕ) → ℕ → List Change
new_here t ys ny s xs nx i = pick (is_first t ys ny i) (only_new (symbol_here t ys i) (first_in (name_at t ys i) s xs nx)) []

-- what n indexes give, from i on
unfoldable pub gathered : (ℕ → List Change) → (i n : ℕ) → List Change
gathered g i zero = []
gathered g i (suc n) = g i ++ gathered g (suc i) n

-- two symbols of one name
unfoldable pub value_here : (xs : List ℕ) (i : ℕ) (ys : List ℕ) (j : ℕ) → List Change
value_here xs i ys j = pick (eqb (symbol_at xs i).value (symbol_at ys j).value) [] (value i j ∷ [])
