-- An index of names: at each name's place the index plus 1 of the first symbol that has this place, or 0.
-- Assumes nothing.
use Rattle.std.specs.Prelude.{ℕ, zero, suc, ◌+◌, ◌*◌, ◌%◌, ◌-◌, Bool, List, [], ◌∷◌, get_or, set, eqb, leb}
use Rattle.format.specs.Lists.{pick}
use Rattle.laws.specs.Rows.{symbol_at}
use Rattle.row_parts.specs.Parts.{name_in}
use Rattle.difference.specs.Module.{same_numbers}
use Rattle.alike.specs.Looked.{first_of}

-- a name's place, from one on
unfoldable pub hash_from : ℕ → List ℕ → ℕ
hash_from h [] = h
hash_from h (b ∷ bs) = hash_from ((h * 31 + b) % 4096) bs

unfoldable pub hash_of : List ℕ → ℕ
hash_of name = hash_from 0 name

-- symbol j's name
unfoldable pub name_at : (text symbols : List ℕ) → ℕ → List ℕ
name_at text symbols j = name_in text (symbol_at symbols j).name

-- whether symbol j has this name
unfoldable pub named_at : (name text symbols : List ℕ) → ℕ → Bool
named_at name text symbols j = same_numbers name (name_at text symbols j)

-- a number noted unless one stands there
unfoldable pub noted : List ℕ → (place v : ℕ) → List ℕ
noted index place v = pick (eqb (get_or index place 0) 0) (set index place v) index

-- n symbols noted, from j on
unfoldable pub index_from : (text symbols index : List ℕ) → (j n : ℕ) → List ℕ
index_from text symbols index j zero = index
index_from text symbols index j (suc n) = index_from text symbols (noted index (hash_of (name_at text symbols j)) (suc j)) (suc j) n

-- n symbols noted; of more than 65,536 none
unfoldable pub indexed : (text symbols : List ℕ) → ℕ → List ℕ → List ℕ
indexed text symbols n index = pick (leb n 65536) (index_from text symbols index 0 n) index

-- what the index has at the name's place, if it has the name; else the first of all
unfoldable pub found_in : (name text symbols : List ℕ) → ℕ → List ℕ → ℕ
found_in name text symbols n index =
    let noted = get_or index (hash_of name) 0 in
    pick (eqb noted 0) (first_of (named_at name text symbols) n)
    (pick (named_at name text symbols (noted - 1)) (noted - 1) (first_of (named_at name text symbols) n))
