-- The rule: what changed between an older and a newer module, in order.
-- Assumes nothing.
use Rattle.std.specs.Prelude.{suc, ℕ, Bool, false, true, ◌&&◌, List, [], ◌++◌, ◌∷◌, eqb}
use Rattle.std.proofs.Math.Option.{Option, none, some}
use Rattle.format.specs.Lists.{pick}
use Rattle.format.specs.Fixups.{Fixup}
use Rattle.difference.specs.Module.{At, Cell, Module, Named, first, firsts, fixups_in, images, says, same_numbers, symbols_of}

pub data Side : Type 0 where
  older newer : Side

-- a position that differs, or that one side lacks; a fixup or an area of one side; a symbol of another value, by its rows; a symbol of one side
pub data Change : Type 0 where
  position : (id at : ℕ) → Option Cell → Option Cell → Change
  fixup : Side → (id index : ℕ) → Change
  area : Side → (id : ℕ) → Change
  value : (old new : ℕ) → Change
  symbol : Side → (index : ℕ) → Change

-- a list for each element, one behind the other
unfoldable pub each : {A B : Type 0} → (A → List B) → List A → List B
each f [] = []
each f (x ∷ xs) = f x ++ each f xs

-- two lists by rank, from one on; where one ends, the other goes on alone
unfoldable pub paired : {A : Type 0} → (ℕ → Option A → Option A → List Change) → ℕ → List A → List A → List Change
paired f i [] [] = []
paired f i (x ∷ xs) [] = f i (some x) none ++ paired f (suc i) xs []
paired f i [] (y ∷ ys) = f i none (some y) ++ paired f (suc i) [] ys
paired f i (x ∷ xs) (y ∷ ys) = f i (some x) (some y) ++ paired f (suc i) xs ys

-- value and mask are equal
abbrev pub same_cell : Option Cell → Option Cell → Bool
same_cell (some c) (some d) = eqb c.value d.value && eqb c.mask d.mask
same_cell (some c) none = false
same_cell none (some d) = false
same_cell none none = true

-- a position of a pair of areas
unfoldable pub position_change : ℕ → ℕ → Option Cell → Option Cell → List Change
position_change id at c d = pick (same_cell c d) [] (position id at c d ∷ [])

-- whether a row says the same
unfoldable pub said_in : List ℕ → List ℕ → List Fixup → Bool
said_in k text [] = false
said_in k text (y ∷ ys) = let rest = said_in k text ys in pick (same_numbers k (says text y)) true rest

-- the fixups of one side's area that the other side lacks
unfoldable pub lacking : Side → ℕ → Module → Module → List Change
lacking side id m other =
    each (λ (x : At Fixup). pick (said_in (says m.text x.it) other.text other.fixups) [] (fixup side id x.index ∷ [])) (fixups_in m id)

-- an area on one side only stands for all that is in it; of a pair first the positions, then the fixups that the newer lacks, then those that the older lacks
unfoldable pub area_change : Module → Module → ℕ → Option (List Cell) → Option (List Cell) → List Change
area_change a b id (some cs) (some ds) = paired (position_change id) 0 cs ds ++ (lacking older id a b ++ lacking newer id b a)
area_change a b id (some cs) none = area older id ∷ []
area_change a b id none (some ds) = area newer id ∷ []
area_change a b id none none = []

-- a symbol of the older, and the newer's first of that name
abbrev pub value_change : At Named → Option (At Named) → List Change
value_change s none = symbol older s.index ∷ []
value_change s (some t) = pick (eqb s.it.value t.it.value) [] (value s.index t.index ∷ [])

-- a symbol of the newer, and the older's first of that name
abbrev pub only_new : At Named → Option (At Named) → List Change
only_new t none = symbol newer t.index ∷ []
only_new t (some s) = []

-- in the order of the older's rows each that has another value or that the newer lacks, then those that the older lacks
unfoldable pub symbol_changes : List (At Named) → List (At Named) → List Change
symbol_changes ss ts =
    each (λ (s : At Named). value_change s (first s.it.name ts)) (firsts ss)
    ++ each (λ (t : At Named). only_new t (first t.it.name ss)) (firsts ts)

-- what changed: area by area, and behind all areas the symbols
unfoldable pub changes : Module → Module → List Change
changes a b = paired (area_change a b) 0 (images a) (images b) ++ symbol_changes (symbols_of a) (symbols_of b)
