-- Symbols that go and symbols that stay: a flag of 1 marks one that goes. What is left of the rows of a module without those that go.
-- Assumes nothing.
use Rattle.std.specs.Prelude.{suc, zero, ℕ, ◌*◌, ◌+◌, ◌/◌, ◌%◌, ◌≡◌, Bool, false, not, List, [], ◌++◌, ◌∷◌, get_or, set, eqb}
use Rattle.std.proofs.lemmas.List.Edits.{sets}
use Rattle.format.specs.Lists.{pick}
use Rattle.difference.specs.Module.{same_numbers}
use Rattle.laws.specs.Rows.{symbol_at}
use Rattle.row_parts.specs.Parts.{name_in}

-- the j-th symbol has this name
unfoldable pub has_name : (text symbols name : List ℕ) → ℕ → Bool
has_name text symbols name j = same_numbers (name_in text (symbol_at symbols j).name) name

-- the flag of the j-th symbol set if it has this name
unfoldable pub mark_one : (text symbols name flags : List ℕ) → ℕ → List ℕ
mark_one text symbols name flags j = pick (has_name text symbols name j) (set flags j 1) flags

-- the same for each of the first n
unfoldable pub marked : (text symbols name flags : List ℕ) → ℕ → List ℕ
marked text symbols name flags zero = flags
marked text symbols name flags (suc n) = mark_one text symbols name (marked text symbols name flags n) n

-- 1 for a symbol that stays
unfoldable pub stays : (flags : List ℕ) → ℕ → ℕ
stays flags j = pick (eqb (get_or flags j 0) 1) 0 1

-- how many of the first n stay; this is also the index that the n-th has afterwards, if it stays
unfoldable pub staying : (flags : List ℕ) → ℕ → ℕ
staying flags zero = 0
staying flags (suc n) = staying flags n + stays flags n

-- the row of the j-th symbol
unfoldable pub symbol_row : (symbols : List ℕ) → ℕ → List ℕ
symbol_row symbols j =
    get_or symbols (5 * j) 0 ∷ get_or symbols (5 * j + 1) 0 ∷ get_or symbols (5 * j + 2) 0 ∷ get_or symbols (5 * j + 3) 0 ∷ get_or symbols (5 * j + 4) 0 ∷ []

-- the rows of those of the first n that stay
unfoldable pub staying_rows : (flags symbols : List ℕ) → ℕ → List ℕ
staying_rows flags symbols zero = []
staying_rows flags symbols (suc n) = staying_rows flags symbols n ++ pick (eqb (get_or flags n 0) 1) [] (symbol_row symbols n)

-- the j-th row as the k-th of another list, if its symbol stays, and which row is next there
pub record Kept (symbols flags : List ℕ) (j k : ℕ) (out : List ℕ) (next : ℕ) (out' : List ℕ) : Type 0 where
  pub count : next ≡ k + stays flags j
  pub stored : out' ≡ sets out (5 * k) (pick (eqb (get_or flags j 0) 1) [] (symbol_row symbols j))

-- the rows of those of the first n that stay, over what another list held, and how many there are
pub record KeptRows (symbols flags : List ℕ) (n : ℕ) (out : List ℕ) (count : ℕ) (out' : List ℕ) : Type 0 where
  pub counted : count ≡ staying flags n
  pub stored : out' ≡ sets out 0 (staying_rows flags symbols n)

-- the i-th fragment refers to a symbol: bit 1 of its mode
unfoldable pub to_symbol : (fragments : List ℕ) → ℕ → Bool
to_symbol fragments i = eqb (get_or fragments (3 * i) 0 / 2 % 2) 1

-- it refers to the j-th
unfoldable pub refers_to : (fragments : List ℕ) (j : ℕ) → ℕ → Bool
refers_to fragments j i = pick (to_symbol fragments i) (eqb (get_or fragments (3 * i + 2) 0) j) false

-- its symbol's index counted by the symbols that stay
unfoldable pub down_one : (flags fragments : List ℕ) → ℕ → List ℕ
down_one flags fragments i = pick (to_symbol fragments i) (set fragments (3 * i + 2) (staying flags (get_or fragments (3 * i + 2) 0))) fragments

-- the same for each of the first n
unfoldable pub down : (flags fragments : List ℕ) → ℕ → List ℕ
down flags fragments zero = fragments
down flags fragments (suc n) = down_one flags (down flags fragments n) n

-- the i-th row of a list of changes is no symbol that the newer lacks
unfoldable pub other_change : (list : List ℕ) → ℕ → Bool
other_change list i = not (eqb (get_or list (8 * i) 0) 8)
