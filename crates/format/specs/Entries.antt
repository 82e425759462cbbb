-- Group one: O, H and M lines, areas and symbols. Each reader gets the bytes of one line, no CR or LF among them.
-- Assumes nothing.
use Rattle.std.specs.Prelude.{ℕ, ◌+◌, Bool, false, true, ◌||◌, List, [], ◌∷◌, get_or, length, eqb, leb}
use Rattle.std.proofs.Math.Option.{Option}
use Rattle.format.specs.Lists.{pick}
use Rattle.format.specs.Got.{Reader, give, is, isnt, optional, or_else, then, ◌>>=◌, ◌>>◌}
use Rattle.format.specs.Number.{Name, blanks, name, number, space, word}
use Rattle.format.specs.Header.{Form}

-- what a line of group one is
pub data Entry : Type 0 where
  ignored : Entry
  area : Name → (size flags : ℕ) → Option ℕ → Entry
  symbol : Name → (ref : Bool) (value : ℕ) → Entry

-- the fixed words of a line
pub data Key : Type 0 where
  A size flags addr S Ref Def T R : Key

-- their bytes
abbrev pub spelled : Key → List ℕ
spelled A = 65 ∷ []
spelled size = 115 ∷ 105 ∷ 122 ∷ 101 ∷ []
spelled flags = 102 ∷ 108 ∷ 97 ∷ 103 ∷ 115 ∷ []
spelled addr = 97 ∷ 100 ∷ 100 ∷ 114 ∷ []
spelled S = 83 ∷ []
spelled Ref = 82 ∷ 101 ∷ 102 ∷ []
spelled Def = 68 ∷ 101 ∷ 102 ∷ []
spelled T = 84 ∷ []
spelled R = 82 ∷ []

-- a letter that passes the test, and at least one more byte: the whole line
unfoldable pub letter_and_more : {A : Type 0} → (ℕ → Bool) → A → Reader A
letter_and_more p a s at = pick (p (get_or s at 0)) (pick (leb (at + 2) (length s)) (is a (length s)) (isnt 4 (at + 1))) (isnt 4 at)

-- O, H and M lines
unfoldable pub is_ignored : ℕ → Bool
is_ignored b = eqb b 79 || eqb b 72 || eqb b 77

-- an O, H or M line
unfoldable pub ignored_line : Reader Entry
ignored_line = letter_and_more is_ignored ignored

-- a word and blanks
unfoldable pub lead : List ℕ → Reader Unit
lead w = do
  word w
  space

-- a line's letter, and a name
unfoldable pub titled : List ℕ → Reader Name
titled w = do
  lead w
  name

-- a word and a number, each behind blanks
unfoldable pub field : List ℕ → ℕ → Reader ℕ
field w radix = do
  space
  lead w
  number radix

-- size N flags N, and perhaps addr N
unfoldable pub area_of : Form → Name → Reader Entry
area_of f n = do
  z ← field (spelled size) f.radix
  g ← field (spelled flags) f.radix
  a ← optional (field (spelled addr) f.radix)
  blanks
  give (area n z g a)

-- A name size N flags N, and perhaps addr N
unfoldable pub area_line : Form → Reader Entry
area_line f = do
  n ← titled (spelled A)
  area_of f n

-- Ref or Def: whether it is Ref
unfoldable pub ref_or_def : Reader Bool
ref_or_def s at = or_else (then (word (spelled Ref) s at) (λ u next. is true next)) (then (word (spelled Def) s at) (λ u next. is false next))

-- the number behind Ref or Def, and blanks
unfoldable pub value_of : Form → Name → Bool → Reader Entry
value_of f n r = do
  v ← number f.radix
  blanks
  give (symbol n r v)

-- RefN or DefN
unfoldable pub symbol_of : Form → Name → Reader Entry
symbol_of f n = do
  space
  r ← ref_or_def
  value_of f n r

-- S name RefN or S name DefN
unfoldable pub symbol_line : Form → Reader Entry
symbol_line f = do
  n ← titled (spelled S)
  symbol_of f n

-- a line of group one: its letter says which
unfoldable pub entry_line : Form → Reader Entry
entry_line f s at =
    let b = get_or s at 0 in
    pick (eqb b 65) (area_line f s at) (pick (eqb b 83) (symbol_line f s at) (ignored_line s at))
