-- What the proofs of the reference lookup share: a law for each return.
-- Assumes nothing.
use Prim.Native.Nat.{ℕ, zero, suc, ◌+◌, ◌-◌, ◌*◌, ◌/◌, ◌%◌, ◌≤◌, ◌<◌}
use mathlib.Core.Path.{◌≡◌, refl, sym}
use mathlib.Core.Bool.{Bool, true, false, not}
use mathlib.Core.List.{List}
use mathlib.Core.Option.{Option, none, some}
use native.Mathlib.Omega.{arith}
use lib.Dec.{leb}
use lib.ListN.{get_or, get_elem?}
use borrow.Author.Rules.{rules}
use borrow.Author.Tests.{eq-eqb, ne_eqb, leb-true, not-true, not-false}
use Rattle.format.specs.Mode.{bit, gives}
use Rattle.format.specs.Outcome.{fine}
use Rattle.format.specs.Tables.{rank, last_index}
use Rattle.format.specs.Fixups.{to_area, home_of, symbol_ref, reference}
use Rattle.format.specs.Rows.{plus_one_or_zero}
use Rattle.laws.specs.Rows.{from, areas_in, symbol_at, symbols_in, tables_in, fragment}
use Rattle.homes.specs.declared.Home.{Home}
use Rattle.homes.specs.Home.{home_at}
use Rattle.homes.proofs.Use.{home-id}
use Rattle.sites.specs.declared.Filled.{Filled}
use Rattle.references.specs.declared.Reference.{Reference}
use Rattle.references.specs.declared.Refers.{Refers}
use Rattle.references.specs.declared.Refers.TheVariants.{Missing, Nothing, To}
use Rattle.sites.specs.Columns.{fragment_at}
use Rattle.sites.specs.Site.{few, tables_for}
use Rattle.references.specs.References.{told, refers_at, refers_in}

-- `rank_of`
pub rank_is : (areas : List ℕ) (n i : ℕ) {h : Home} → h ≡ home_at areas n i → h.id ≡ plus_one_or_zero (rank 0 (areas_in areas (few n)) i)
unfolding few home_at areas_in from rank
rank_is areas n i {h} e = go (leb n 64) refl
  where
    go : (b : Bool) → leb n 64 ≡ b → h.id ≡ plus_one_or_zero (rank 0 (areas_in areas (few n)) i)
    go true t = rw t (home-id areas n i e (leb-true n 64 t))
    go false t = rw (e, t)

pub ruleset ranking = (rules, rank_is)

-- `to_area`
abbrev pub to : (outside what length value : ℕ) → Reference
to o w l v = record { outside = o; what = w; length = l; value = v }

pub to-nothing : (id v : ℕ) → id ≡ 0 → (o : Option ℕ) → id ≡ plus_one_or_zero o → (place : ℕ) → told place Nothing ≡ fine (to_area o v)
to-nothing id v h none e place = refl
to-nothing id v h (some k) e place = absurd (omega arith)

pub to-kept : (id v : ℕ) → (id ≡ 0 → ⊥) → (o : Option ℕ) → id ≡ plus_one_or_zero o → (place : ℕ) → told place (To (to 0 (id - 1) 0 v)) ≡ fine (to_area o v)
to-kept id v h none e place = absurd (h e)
to-kept id v h (some k) e place = let p : id - 1 ≡ k = omega arith in rw p

-- `home_of`
pub home-none : (areas : List ℕ) (n area : ℕ) → area ≡ 0 → 0 ≡ plus_one_or_zero (home_of (areas_in areas (few n)) (last_index area))
home-none areas n area h = rw h

pub home-rank : (areas : List ℕ) (n area : ℕ) → (area ≡ 0 → ⊥) → {r : ℕ} → r ≡ plus_one_or_zero (rank 0 (areas_in areas (few n)) (area - 1)) → r ≡ plus_one_or_zero (home_of (areas_in areas (few n)) (last_index area))
home-rank areas n zero h e = absurd (h refl)
home-rank areas n (suc k) h e = let p : suc k - 1 ≡ k = omega arith in rw p at e

-- `symbol_ref`
module _ (areas : List ℕ) (n : ℕ) (symbols : List ℕ) (i : ℕ) {v : ℕ} (ev : v ≡ get_or symbols (5 * i + 3) 0) {x : ℕ} (ex : x ≡ get_or symbols (5 * i + 2) 0) where
  pub symbol-outside : x ≡ 1 → {a b : ℕ} → a ≡ get_or symbols (5 * i) 0 → b ≡ get_or symbols (5 * i + 1) 0
      → (place : ℕ) → told place (To (to 1 a b v)) ≡ symbol_ref (areas_in areas (few n)) place (some (symbol_at symbols i))
  unfolding symbol_at
  symbol-outside h ea eb place = rw (← ex, ← ev, ← ea, ← eb, eq-eqb x 1 h)

  pub symbol-home : (x ≡ 1 → ⊥) → {y area id : ℕ} → y ≡ get_or symbols (5 * i + 4) 0 → area ≡ y → id ≡ plus_one_or_zero (home_of (areas_in areas (few n)) (last_index area))
      → (r : Refers) → ((o : Option ℕ) → id ≡ plus_one_or_zero o → (place : ℕ) → told place r ≡ fine (to_area o v))
      → (place : ℕ) → told place r ≡ symbol_ref (areas_in areas (few n)) place (some (symbol_at symbols i))
  unfolding symbol_at
  symbol-home h {area = area} ey ea eid r f place = rw (← ex, ← ev, ← ey, ← ea, ne_eqb x 1 h) (f (home_of (areas_in areas (few n)) (last_index area)) eid place)

pub ruleset symbols = (rules, to-nothing, to-kept, home-none, home-rank, symbol-outside, symbol-home)

-- `refer`
pub elem_in : (rows : List ℕ) (j n i : ℕ) → i < n → get_elem? (from (symbol_at rows) j n) i ≡ some (symbol_at rows (j + i))
unfolding from
elem_in rows j zero i h = absurd (omega arith)
elem_in rows j (suc n) zero h = let e : j + 0 ≡ j = omega arith in rw e
elem_in rows j (suc n) (suc i) h = let e : j + suc i ≡ suc j + i = omega arith in rw e (elem_in rows (suc j) n i (omega arith))

elem_past : (rows : List ℕ) (j n i : ℕ) → n ≤ i → get_elem? (from (symbol_at rows) j n) i ≡ none
unfolding from
elem_past rows j zero i h = refl
elem_past rows j (suc n) zero h = absurd (omega arith)
elem_past rows j (suc n) (suc i) h = elem_past rows (suc j) n i (omega arith)

module _ (areas symbols : List ℕ) (n : Filled) (mode index : ℕ) where
  pub refer-area : (mode / 2 % 2 ≡ 1 → ⊥) → {id : ℕ} → id ≡ plus_one_or_zero (rank 0 (areas_in areas (few n.areas)) index)
      → (r : Refers) → ((o : Option ℕ) → id ≡ plus_one_or_zero o → (place : ℕ) → told place r ≡ fine (to_area o 0))
      → (place entry : ℕ) → told place r ≡ reference (tables_for areas symbols n) place (fragment mode entry index)
  unfolding reference tables_for tables_in bit
  refer-area h e r f place entry = rw (ne_eqb (mode / 2 % 2) 1 h) (f (rank 0 (areas_in areas (few n.areas)) index) e place)

  module _ (h : mode / 2 % 2 ≡ 1) where
    pub refer-symbol : index < n.symbols → (r : Refers) → ((place : ℕ) → told place r ≡ symbol_ref (areas_in areas (few n.areas)) place (some (symbol_at symbols index)))
        → (place entry : ℕ) → told place r ≡ reference (tables_for areas symbols n) place (fragment mode entry index)
    unfolding reference tables_for tables_in bit symbols_in
    refer-symbol l r f place entry = let z : 0 + index ≡ index = omega arith in rw (eq-eqb (mode / 2 % 2) 1 h, elem_in symbols 0 n.symbols index l, z) (f place)

    pub refer-missing : n.symbols ≤ index → (place entry : ℕ) → told place Missing ≡ reference (tables_for areas symbols n) place (fragment mode entry index)
    unfolding reference tables_for tables_in bit symbols_in
    refer-missing l place entry = rw (eq-eqb (mode / 2 % 2) 1 h, elem_past symbols 0 n.symbols index l)

pub ruleset referring = (rules, refer-area, refer-symbol, refer-missing)

-- `refers_at`: f is the fragment's entry
module _ (areas symbols : List ℕ) (n : Filled) (ms es xs : List ℕ) (i entry : ℕ) {f : ℕ} (ef : f ≡ get_or es i 0) where
  pub at_other : (f ≡ entry → ⊥) → (place : ℕ) → told place Nothing ≡ refers_in areas symbols n (fragment_at ms es xs i) entry place
  unfolding refers_in refers_at fragment_at
  at_other h place = rw (← ef, ne_eqb f entry h)

  module _ (h : f ≡ entry) {m : ℕ} (em : m ≡ get_or ms i 0) {g : Bool} (eg : g ≡ gives m) where
    gives-is : gives (get_or ms i 0) ≡ g
    gives-is = rw (← em) (sym eg)

    pub at-dull : not g ≡ true → (place : ℕ) → told place Nothing ≡ refers_in areas symbols n (fragment_at ms es xs i) entry place
    unfolding refers_in refers_at fragment_at
    at-dull d place = rw (← ef, eq-eqb f entry h, gives-is, not-true g d)

    pub at_gives : not g ≡ false → {x index : ℕ} → x ≡ get_or xs i 0 → index ≡ x
        → (r : Refers) → ((place e : ℕ) → told place r ≡ reference (tables_for areas symbols n) place (fragment m e index))
        → (place : ℕ) → told place r ≡ refers_in areas symbols n (fragment_at ms es xs i) entry place
    unfolding refers_in refers_at fragment_at
    at_gives d ex ei r a place = rw (← ef, eq-eqb f entry h, gives-is, not-false g d, ← em, ← ex, ← ei) (a place f)

pub ruleset looking = (rules, at_other, at-dull, at_gives)
