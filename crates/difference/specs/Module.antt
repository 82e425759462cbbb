-- What two releases are compared by: the images of the kept areas, the fixups by what they say, the symbols by their names.
-- Assumes nothing.
use Rattle.std.specs.Prelude.{suc, ℕ, Bool, false, not, true, List, [], ◌∷◌, drop, take, eqb}
use Rattle.std.proofs.Math.Option.{Option, none, some}
use Rattle.format.specs.Lists.{pick}
use Rattle.format.specs.Tables.{Area, Symbol, kept}
use Rattle.format.specs.Fixups.{Fixup}
use Rattle.row_parts.specs.Parts.{part_of}

-- a text, and what was read of it: the rows of its areas, symbols and fixups, and the images of the kept areas
pub record Module : Type 0 where
  pub text : List ℕ
  pub areas : List Area
  pub symbols : List Symbol
  pub values : List ℕ
  pub masks : List ℕ
  pub fixups : List Fixup

-- whether two lists of numbers are the same
unfoldable pub same_numbers : List ℕ → List ℕ → Bool
same_numbers [] [] = true
same_numbers [] (y ∷ ys) = false
same_numbers (x ∷ xs) [] = false
same_numbers (x ∷ xs) (y ∷ ys) = let rest = same_numbers xs ys in pick (eqb x y) rest false

-- a position of an image: its value and its mask
pub record Cell : Type 0 where
  pub value : ℕ
  pub mask : ℕ

-- values and masks side by side
unfoldable pub cells : List ℕ → List ℕ → List Cell
cells (v ∷ vs) (m ∷ ms) = record { value = v; mask = m } ∷ cells vs ms
cells [] ms = []
cells (v ∷ vs) [] = []

-- the sizes of the kept areas, by id
unfoldable pub sizes : List Area → List ℕ
sizes [] = []
sizes (a ∷ rest) = let more = sizes rest in pick (kept a) (a.size ∷ more) more

-- parts of these sizes, which stand one behind the other
unfoldable pub split : List ℕ → List Cell → List (List Cell)
split [] cs = []
split (z ∷ zs) cs = take z cs ∷ split zs (drop z cs)

-- the images of the kept areas, by id
unfoldable pub images : Module → List (List Cell)
images m = split (sizes m.areas) (cells m.values m.masks)

-- what a fixup says: the id of its area, position, size, mode, value, number, and what it refers to: an outside symbol by its name's bytes, an area by its id
unfoldable pub says : List ℕ → Fixup → List ℕ
says text x =
    let r = x.refers in
    x.home ∷ x.position ∷ x.size ∷ x.mode ∷ r.value ∷ x.number ∷ r.outside ∷ pick (eqb r.outside 0) (r.what ∷ []) (part_of text r.what r.length)

-- a row's index, with what stands there
pub record At (A : Type 0) : Type 0 where
  pub index : ℕ
  pub it : A

-- rows with their indexes, from one on
unfoldable pub numbered : {A : Type 0} → ℕ → List A → List (At A)
numbered i [] = []
numbered i (x ∷ xs) = record { index = i; it = x } ∷ numbered (suc i) xs

-- those that pass a test
unfoldable pub passing : {A : Type 0} → (A → Bool) → List A → List A
passing p [] = []
passing p (x ∷ xs) = let rest = passing p xs in pick (p x) (x ∷ rest) rest

-- the fixup rows of an area
unfoldable pub fixups_in : Module → ℕ → List (At Fixup)
fixups_in m id = passing (λ (x : At Fixup). eqb x.it.home id) (numbered 0 m.fixups)

-- a symbol by its name's bytes, with its value
pub record Named : Type 0 where
  pub name : List ℕ
  pub value : ℕ

unfoldable pub named : List ℕ → List Symbol → List Named
named text [] = []
named text (s ∷ ss) = record { name = part_of text s.name.at s.name.length; value = s.value } ∷ named text ss

-- the symbol rows
unfoldable pub symbols_of : Module → List (At Named)
symbols_of m = numbered 0 (named m.text m.symbols)

-- the first of a name, if there is one
unfoldable pub first : List ℕ → List (At Named) → Option (At Named)
first n [] = none
first n (s ∷ ss) = let rest = first n ss in pick (same_numbers n s.it.name) (some s) rest

-- the first of each name; later ones are not looked at
unfoldable pub firsts : List (At Named) → List (At Named)
firsts [] = []
firsts (s ∷ ss) = s ∷ passing (λ (t : At Named). not (same_numbers t.it.name s.it.name)) (firsts ss)
