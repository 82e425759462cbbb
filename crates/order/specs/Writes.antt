-- What one pair writes, by the pair alone: the cells of the images, each with its place, value and mask, and the fixup rows. And what
-- writing them does to a state.
-- Assumes nothing.
use Rattle.std.specs.Prelude.{ℕ, zero, suc, ◌+◌, ◌<◌, ◌≡◌, Bool, true, false, List, [], ◌∷◌, ◌++◌, length, get_or, set, eqb, ltb}
use Rattle.std.proofs.Math.Option.{Option, none, some}
use Rattle.format.specs.Lists.{pick}
use Rattle.format.specs.Header.{Form}
use Rattle.format.specs.Pairs.{Content, Relocation, Pair, skipped, placed}
use Rattle.format.specs.Records.{Taken}
use Rattle.format.specs.Tables.{Tables, rank}
use Rattle.format.specs.Fixups.{Fixup}
use Rattle.format.specs.Outcome.{fine}
use Rattle.format.specs.Placing.{State, Walk, place_pair}
use Rattle.laws.specs.PairRows.{walk_of, pair_rows}

-- a position of the images, counted from the first kept area's first byte, and what is written there
pub record Cell : Type 0 where
  pub at : ℕ
  pub value : ℕ
  pub mask : ℕ

-- the cell of an entry
unfoldable pub cell_of : Walk → (entry position : ℕ) → Cell
cell_of w entry position = record { at = w.start + position; value = get_or w.work.values entry 0; mask = get_or w.work.masks entry 0 }

-- the cells that a walk writes: the kept entries, while the position is inside the area
unfoldable pub cells_of : Walk → (n entry position : ℕ) → List Cell
cells_of w zero entry position = []
cells_of w (suc n) entry position =
    let on = cell_of w entry position ∷ cells_of w n (suc entry) (suc position) in
    let off = cells_of w n (suc entry) position in
    pick (ltb position w.size) (pick (eqb (get_or w.work.keeps entry 0) 1) on off) []

-- a pair of an area that is not kept writes nothing, nor does a T and P pair
abbrev pub cells_in : Form → Tables → ℕ → Content → Relocation → Option ℕ → List Cell
cells_in fm t place c r none = []
cells_in fm t place c r (some id) = cells_of (walk_of fm t place id c r) (fm.address_length + length c.bytes) 0 c.address

abbrev pub cells_by : Form → Tables → ℕ → Pair → List Cell
cells_by fm t place skipped = []
cells_by fm t place (placed c r) = cells_in fm t place c r (rank 0 t.areas r.area)

-- the cells that a pair writes, and the rows that it makes
unfoldable pub writes : Form → Tables → Taken Pair → List Cell
writes fm t p = cells_by fm t p.place p.body

unfoldable pub rows : Form → Tables → Taken Pair → List Fixup
rows fm t p = pair_rows fm t p.place p.body

-- the cell at a position, if there is one
unfoldable pub cell_at : List Cell → ℕ → Option Cell
cell_at [] i = none
cell_at (c ∷ cs) i = let rest = cell_at cs i in pick (eqb c.at i) (some c) rest

-- one cell after the other, laid over an image; f is value or mask
unfoldable pub lay : (Cell → ℕ) → List Cell → List ℕ → List ℕ
lay f [] xs = xs
lay f (c ∷ cs) xs = lay f cs (set xs c.at (f c))

-- what a state is once cells were written and rows made
unfoldable pub after : List Cell → List Fixup → State → State
after cs rs s = record {
  values = lay (λ (c : Cell). c.value) cs s.values;
  masks = lay (λ (c : Cell). c.mask) cs s.masks;
  fixups = s.fixups ++ rs;
}

-- what is there, or else a number
abbrev pub else_of : {A : Type 0} → (A → ℕ) → Option A → ℕ → ℕ
else_of f none x = x
else_of f (some a) x = f a

-- whether there is something
abbrev pub written : {A : Type 0} → Option A → Bool
written none = false
written (some a) = true

-- whether a pair writes a position
unfoldable pub wrote : Form → Tables → Taken Pair → ℕ → Bool
wrote fm t p i = written (cell_at (writes fm t p) i)

-- what placing a pair makes of a state: each position that it writes gets its value and mask, every other stays, its rows are added
pub record Overwritten (fm : Form) (t : Tables) (p : Taken Pair) (s u : State) : Type 0 where
  pub values : (i : ℕ) → i < length s.values → get_or u.values i 0 ≡ else_of (λ (c : Cell). c.value) (cell_at (writes fm t p) i) (get_or s.values i 0)
  pub masks : (i : ℕ) → i < length s.masks → get_or u.masks i 0 ≡ else_of (λ (c : Cell). c.mask) (cell_at (writes fm t p) i) (get_or s.masks i 0)
  pub values_length : length u.values ≡ length s.values
  pub masks-length : length u.masks ≡ length s.masks
  pub fixups : u.fixups ≡ s.fixups ++ rows fm t p

-- a pair that is not refused: from some state it is placed
pub record Unrefused (fm : Form) (t : Tables) (p : Taken Pair) : Type 0 where
  pub from : State
  pub to : State
  pub is-fine : place_pair fm t from p ≡ fine to
