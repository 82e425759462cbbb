-- A pair without content and fragments changes nothing: the walk passes over its address entries, none of which is kept.
-- Assumes nothing.
use Prim.Native.Nat.{ℕ, zero, suc, ◌+◌, ◌-◌}
use mathlib.Core.Path.{◌≡◌, refl, sym, ◌∙◌}
use mathlib.Core.Bool.{Bool, true, false, false≢true, ◌&&◌}
use mathlib.Core.List.{List, [], ◌∷◌, ◌++◌}
use mathlib.Core.Option.{Option, none, some}
use lib.Dec.{eqb, ltb}
use lib.ListN.{get_or, take, replicate}
use borrow.Author.Tests.{eqb-true}
use Rattle.format.specs.Lists.{pick}
use Rattle.format.specs.Header.{Form}
use Rattle.format.specs.Outcome.{Outcome, fine, and_then, fold}
use Rattle.format.specs.Tables.{Tables, rank, offset}
use Rattle.format.specs.ModeStep.{Work}
use Rattle.format.specs.WorkLine.{padded, work_line, fresh, step_all}
use Rattle.format.specs.Fixups.{Fixup, Site, fixups_at}
use Rattle.format.specs.Placing.{State, Walk, passed_over, write, walk, walk_by, place_at, place_line, place_in, place_pair, extent}
use Rattle.laws.specs.Rows.{from, areas_in, tables_in}
use Rattle.sites.specs.Columns.{fragment_at, fragments_in}
use Rattle.sites.specs.declared.Filled.{Filled}
use Rattle.sites.specs.declared.Line.{Line}
use Rattle.place.specs.Pair.{pair_of}

-- entries of 0
zeros-at : (n i : ℕ) → ◌≡◌ {A = ℕ} (get_or (replicate n 0) i 0) 0
zeros-at zero i = refl
zeros-at (suc n) zero = refl
zeros-at (suc n) (suc i) = zeros-at n i

both_zero : (xs ys : List ℕ) → ((i : ℕ) → get_or xs i 0 ≡ 0) → ((i : ℕ) → get_or ys i 0 ≡ 0) → (i : ℕ) → get_or (xs ++ ys) i 0 ≡ 0
both_zero [] ys h k i = k i
both_zero (x ∷ xs) ys h k zero = h zero
both_zero (x ∷ xs) ys h k (suc i) = both_zero xs ys (λ j. h (suc j)) k i

none_kept : (a i : ℕ) → get_or (padded a 0 []) i 0 ≡ 0
unfolding padded
none_kept a i = both_zero (replicate a 0 ++ []) (replicate (260 - (a + 0)) 0) (both_zero (replicate a 0) [] (zeros-at a) (λ j. refl)) (zeros-at (260 - (a + 0))) i

-- a walk without fragments over entries of which none is kept
module _ (site : Site) (start size : ℕ) (work : Work) (h : (i : ℕ) → get_or work.keeps i 0 ≡ 0) where
  by : Walk
  by = record { site = site; start = start; size = size; fragments = []; work = work }

  walk-idle : (n entry position : ℕ) (s : State) → walk by n entry position s ≡ fine s
  unfolding walk by fixups_at passed_over
  walk-idle zero entry position s = refl
  walk-idle (suc n) entry position s = rw (h entry) (go (walk by n (suc entry) position s) (walk-idle n (suc entry) position s) (ltb position size))
    where
      go : (x : Outcome State) → x ≡ fine s → (b : Bool) → pick b x (fine s) ≡ fine s
      go x e true = e
      go x e false = refl

place-idle : (f : Form) (t : Tables) (place id start size a : ℕ) (s : State) → place_at f t place id start size (record { address = a; bytes = [] }) [] s ≡ fine s
unfolding place_at fold step_all fresh work_line walk_by by
place-idle f t place id start size a s =
    walk-idle (record { tables = t; place = place; home = id; numbers = [] }) start size
    (record { values = padded f.address_length 0 []; masks = padded f.address_length 0 []; keeps = padded f.address_length 0 [] }) (none_kept f.address_length) (f.address_length + 0) 0 a s

module _ (f : Form) (t : Tables) (place a area : ℕ) (s : State) where
  in-idle : (o : Option ℕ) → place_in f t place (record { address = a; bytes = [] }) (record { area = area; fragments = [] }) s o ≡ fine s
  unfolding place_line
  in-idle none = refl
  in-idle (some id) = place-idle f t place id (offset t.areas area) (extent t.areas area) a s

pub idle-pair : (l : Line) (bs ms es xs areas symbols : List ℕ) (n : Filled) → l.bytes ≡ 0 → l.fragments ≡ 0 → (s : State) (radix end : ℕ) → pair_of l bs ms es xs areas symbols n s radix end ≡ fine s
unfolding pair_of place_pair fragments_in from tables_in
idle-pair l bs ms es xs areas symbols n e f s radix end =
    rw (e, f) (in-idle (record { radix = radix; big = l.big; address_length = l.width }) (tables_in areas n.areas symbols n.symbols) l.place l.address l.area s (rank 0 (areas_in areas n.areas) l.area))

-- both counts are 0
pub empty-both : (a b : ℕ) {r : Bool} → r ≡ (eqb a 0 && eqb b 0) → r ≡ true → (a ≡ 0) × (b ≡ 0)
empty-both a b e h = go (eqb a 0) refl (sym e ∙ h)
  where
    go : (t : Bool) → eqb a 0 ≡ t → (t && eqb b 0) ≡ true → (a ≡ 0) × (b ≡ 0)
    go true f g = (eqb-true a 0 f, eqb-true b 0 g)
    go false f g = absurd (false≢true g)
