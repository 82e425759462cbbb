-- The fixups that a pair gives: what a fragment refers to, its row, and refusals 11, 12 and 13; and fixups by area.
-- Assumes nothing.
use Rattle.std.specs.Prelude.{suc, zero, ℕ, ◌&&◌, List, [], ◌++◌, ◌∷◌, get_or, length, eqb, ltb}
use Rattle.std.proofs.Math.Option.{Option, none, some}
use Rattle.std.proofs.Math.ListN.{get_elem?}
use Rattle.format.specs.Lists.{pick}
use Rattle.format.specs.Pairs.{Fragment}
use Rattle.format.specs.Mode.{bit, gives, on_site}
use Rattle.format.specs.Outcome.{Outcome, and_then, fine, refused}
use Rattle.format.specs.Tables.{Area, Symbol, Tables, rank}

-- what a fixup refers to: an outside symbol by its name (outside is 1), or a kept area by its id (outside is 0); and a value
pub record Reference : Type 0 where
  pub outside : ℕ
  pub what : ℕ
  pub length : ℕ
  pub value : ℕ

-- the id of the area it lies in, its position there, its size on site, its mode, what it refers to, and its number
pub record Fixup : Type 0 where
  pub home : ℕ
  pub position : ℕ
  pub size : ℕ
  pub mode : ℕ
  pub refers : Reference
  pub number : ℕ

-- a reference to a kept area, if there is an id
abbrev pub to_area : Option ℕ → ℕ → Option Reference
to_area none v = none
to_area (some id) v = some (record { outside = 0; what = id; length = 0; value = v })

-- the id of a symbol's area
abbrev pub home_of : List Area → Option ℕ → Option ℕ
home_of areas none = none
home_of areas (some i) = rank 0 areas i

-- a Ref by its name and value, a Def by its area's id and value; 11 where the index is past the table
abbrev pub symbol_ref : List Area → ℕ → Option Symbol → Outcome (Option Reference)
symbol_ref areas place none = refused 11 place
symbol_ref areas place (some s) = fine
    (pick s.ref (some (record { outside = 1; what = s.name.at; length = s.name.length; value = s.value }))
    (to_area (home_of areas s.area) s.value))

-- with bit 1 the index is a symbol, without it an area with value 0
unfoldable pub reference : Tables → ℕ → Fragment → Outcome (Option Reference)
reference t place f =
    pick (bit 1 f.mode) (symbol_ref t.areas place (get_elem? t.symbols f.index))
    (fine (to_area (rank 0 t.areas f.index) 0))

-- what the fixups of a pair go by: the tables, its place, the id of its area, and the numbers that its fragments made
pub record Site : Type 0 where
  pub tables : Tables
  pub place : ℕ
  pub home : ℕ
  pub numbers : List ℕ

-- the row that the i-th fragment makes
unfoldable pub fixup_of : Site → (i position : ℕ) → Fragment → Reference → Fixup
fixup_of w i position f r = record {
  home = w.home;
  position = position;
  size = on_site f.mode;
  mode = f.mode;
  refers = r;
  number = get_or w.numbers i 0;
}

-- 12, then 13
abbrev pub fixup_to : Site → (i position : ℕ) → Fragment → List Fixup → Option Reference → Outcome (List Fixup)
fixup_to w i position f xs none = fine xs
fixup_to w i position f xs (some r) =
    pick (ltb i (length w.numbers))
    (pick (ltb (length xs) 1024) (fine (xs ++ fixup_of w i position f r ∷ [])) (refused 13 w.place))
    (refused 12 w.place)

-- one fragment at an entry
unfoldable pub fixup_at : Site → (entry position i : ℕ) → Fragment → List Fixup → Outcome (List Fixup)
fixup_at w entry position i f xs =
    pick (eqb f.entry entry && gives f.mode)
    (and_then (reference w.tables w.place f) (λ r. fixup_to w i position f xs r))
    (fine xs)

-- the fragments of an entry, in order, the i-th first
unfoldable pub fixups_at : Site → (entry position i : ℕ) → List Fragment → List Fixup → Outcome (List Fixup)
fixups_at w entry position i [] xs = fine xs
fixups_at w entry position i (f ∷ fs) xs = and_then (fixup_at w entry position i f xs) (λ ys. fixups_at w entry position (suc i) fs ys)

-- the fixups of one area, in the order made
unfoldable pub of_area : ℕ → List Fixup → List Fixup
of_area id [] = []
of_area id (x ∷ xs) = let rest = of_area id xs in pick (eqb x.home id) (x ∷ rest) rest

-- area by area: n of them, from an id on
unfoldable pub by_area : ℕ → ℕ → List Fixup → List Fixup
by_area zero id xs = []
by_area (suc n) id xs = of_area id xs ++ by_area n (suc id) xs
