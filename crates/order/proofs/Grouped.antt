-- Fixup rows behind the grouping by area, where the rows of two pairs were exchanged: the same for pairs of different areas, and the two runs
-- exchanged for pairs of one area.
-- Assumes nothing.
use Prim.Native.Nat.{ℕ, zero, suc, ◌+◌, ◌≤◌, ◌<◌}
use mathlib.Core.Path.{◌≡◌, refl, sym, ap, ◌∙◌}
use mathlib.Core.Bool.{Bool, true, false}
use mathlib.Core.List.{List, [], ◌++◌, append_assoc, append-nil}
use mathlib.Core.Option.{Option, none, some}
use mathlib.Core.Logic.{◌⊎◌, inl, inr}
use native.Mathlib.Omega.{arith}
use lib.Dec.{eqb}
use borrow.Author.Tests.{eqb-true, eqb-false, eq-eqb, ne_eqb}
use Rattle.format.specs.Lists.{flat, pick}
use Rattle.format.specs.Header.{Form}
use Rattle.format.specs.Pairs.{Pair, placed, skipped}
use Rattle.format.specs.Records.{Taken}
use Rattle.format.specs.Tables.{Tables, kept_count}
use Rattle.format.specs.Fixups.{Fixup, by_area, of_area}
use Rattle.laws.specs.PairRows.{pair_rows}
use Rattle.laws.proofs.Placing.{of-append, pair-rows-for}
use Rattle.laws.proofs.Room.{flat_append}
use Rattle.order.specs.Writes.{rows}
use Rattle.order.specs.Texts.{Runs, area_of}
use Rattle.order.proofs.Homes.{home, home_below, no-rank, one-area, one-home}

-- ------------------------------------------------------------------ the rows of one pair

-- a pair of no kept area has none
no_rows : (fm : Form) (t : Tables) (p : Taken Pair) → home t p.body ≡ none → rows fm t p ≡ []
unfolding rows
no_rows fm t p h = go p.body h
  where
    go : (b : Pair) → home t b ≡ none → pair_rows fm t p.place b ≡ []
    go skipped e = refl
    go (placed c r) e = rw e

-- and those of another all lie in its area
rows-of : (fm : Form) (t : Tables) (p : Taken Pair) (h id : ℕ) → home t p.body ≡ some h → of_area id (rows fm t p) ≡ pick (eqb h id) (rows fm t p) []
unfolding rows
rows-of fm t p h id e = go p.body e
  where
    go : (b : Pair) → home t b ≡ some h → of_area id (pair_rows fm t p.place b) ≡ pick (eqb h id) (pair_rows fm t p.place b) []
    go skipped f = no-rank h f
    go (placed c r) f = pair-rows-for fm t id p.place (placed c r) ∙ rw f

-- ------------------------------------------------------------------ four runs

of-runs : (id : ℕ) (x u v y : List Fixup) → of_area id (x ++ (u ++ (v ++ y))) ≡ of_area id x ++ (of_area id u ++ (of_area id v ++ of_area id y))
of-runs id x u v y = of-append id x (u ++ (v ++ y)) ∙ ap (λ (z : List Fixup). of_area id x ++ z) (of-append id u (v ++ y) ∙ ap (λ (z : List Fixup). of_area id u ++ z) (of-append id v y))

-- one of two runs has no row of an area
none_first : (p q r s : List Fixup) → q ≡ [] → p ++ (q ++ (r ++ s)) ≡ p ++ (r ++ (q ++ s))
none_first p q r s e = rw e

of-exchanged : (id : ℕ) (x u v y : List Fixup) → (of_area id u ≡ []) ⊎ (of_area id v ≡ []) → of_area id (x ++ (u ++ (v ++ y))) ≡ of_area id (x ++ (v ++ (u ++ y)))
of-exchanged id x u v y (inl e) = of-runs id x u v y ∙ (none_first (of_area id x) (of_area id u) (of_area id v) (of_area id y) e ∙ sym (of-runs id x v u y))
of-exchanged id x u v y (inr e) = of-runs id x u v y ∙ (sym (none_first (of_area id x) (of_area id v) (of_area id u) (of_area id y) e) ∙ sym (of-runs id x v u y))

-- a list behind four others
five : (p q r s z : List Fixup) → (p ++ (q ++ (r ++ s))) ++ z ≡ p ++ (q ++ (r ++ (s ++ z)))
five p q r s z = simp append_assoc

by-area-same : (n k : ℕ) (xs ys : List Fixup) → ((id : ℕ) → k ≤ id → of_area id xs ≡ of_area id ys) → by_area n k xs ≡ by_area n k ys
unfolding by_area
by-area-same zero k xs ys h = refl
by-area-same (suc n) k xs ys h = rw (h k (omega arith), by-area-same n (suc k) xs ys (λ id l. h id (omega arith)))

-- ------------------------------------------------------------------ two pairs

module _ (fm : Form) (t : Tables) (a b : Taken Pair) (x y : List Fixup) where
  -- the rows of all pairs, a before b; and b before a
  abbrev one : List Fixup
  one = x ++ (rows fm t a ++ (rows fm t b ++ y))

  abbrev other : List Fixup
  other = x ++ (rows fm t b ++ (rows fm t a ++ y))

  -- in different areas, or in none
  none-of-one : (area_of a.body ≡ area_of b.body → ⊥) → (id : ℕ) → (of_area id (rows fm t a) ≡ []) ⊎ (of_area id (rows fm t b) ≡ [])
  unfolding of_area
  none-of-one d id = go (home t a.body) (home t b.body) refl refl
    where
      both : (h k : ℕ) → home t a.body ≡ some h → home t b.body ≡ some k → (u : Bool) → eqb h id ≡ u → (of_area id (rows fm t a) ≡ []) ⊎ (of_area id (rows fm t b) ≡ [])
      both h k p q false e = inl (rows-of fm t a h id p ∙ rw e)
      both h k p q true e =
          let n : k ≡ id → ⊥ = λ f. d (one-area t a.body b.body k (p ∙ ap (λ (m : ℕ). some m) (eqb-true h id e ∙ sym f)) q) in
          inr (rows-of fm t b k id q ∙ rw (ne_eqb k id n))

      go : (o q : Option ℕ) → home t a.body ≡ o → home t b.body ≡ q → (of_area id (rows fm t a) ≡ []) ⊎ (of_area id (rows fm t b) ≡ [])
      go none q e f = inl (rw (no_rows fm t a e))
      go (some h) none e f = inr (rw (no_rows fm t b f))
      go (some h) (some k) e f = both h k e f (eqb h id) refl

  pub grouped-apart : (area_of a.body ≡ area_of b.body → ⊥) → (n : ℕ) → by_area n 0 one ≡ by_area n 0 other
  grouped-apart d n = by-area-same n 0 one other (λ id l. of-exchanged id x (rows fm t a) (rows fm t b) y (none-of-one d id))

  -- in the area with the id h
  module _ (h : ℕ) (at_a : home t a.body ≡ some h) (at_b : home t b.body ≡ some h) where
    elsewhere : (id : ℕ) → (h ≡ id → ⊥) → of_area id one ≡ of_area id other
    elsewhere id n = of-exchanged id x (rows fm t a) (rows fm t b) y (inl (rows-of fm t a h id at_a ∙ rw (ne_eqb h id n)))

    runs_here : (n : ℕ) → Runs (rows fm t a) (rows fm t b) (by_area (suc n) h one) (by_area (suc n) h other)
    unfolding by_area
    runs_here n =
        let ra : of_area h (rows fm t a) ≡ rows fm t a = rows-of fm t a h h at_a ∙ rw (eq-eqb h h refl) in
        let rb : of_area h (rows fm t b) ≡ rows fm t b = rows-of fm t b h h at_b ∙ rw (eq-eqb h h refl) in
        let later : by_area n (suc h) one ≡ by_area n (suc h) other = by-area-same n (suc h) one other (λ id l. elsewhere id (λ e. omega arith)) in
        let here : of_area h one ≡ of_area h x ++ (rows fm t a ++ (rows fm t b ++ of_area h y)) = of-runs h x (rows fm t a) (rows fm t b) y ∙ rw (ra, rb) in
        let there : of_area h other ≡ of_area h x ++ (rows fm t b ++ (rows fm t a ++ of_area h y)) = of-runs h x (rows fm t b) (rows fm t a) y ∙ rw (ra, rb) in
        record {
          before = of_area h x;
          behind = of_area h y ++ by_area n (suc h) one;
          has = ap (λ (z : List Fixup). z ++ by_area n (suc h) one) here ∙ five (of_area h x) (rows fm t a) (rows fm t b) (of_area h y) (by_area n (suc h) one);
          has-exchanged =
              ap (λ (z : List Fixup). z ++ by_area n (suc h) other) there
              ∙ (ap (λ (z : List Fixup). (of_area h x ++ (rows fm t b ++ (rows fm t a ++ of_area h y))) ++ z) (sym later)
              ∙ five (of_area h x) (rows fm t b) (rows fm t a) (of_area h y) (by_area n (suc h) one));
        }

    runs-from : (n k : ℕ) → k ≤ h → h < k + n → Runs (rows fm t a) (rows fm t b) (by_area n k one) (by_area n k other)
    unfolding by_area
    runs-from zero k l m = absurd (omega arith)
    runs-from (suc n) k l m = go (eqb h k) refl (λ f. runs-from n (suc k) f (omega arith))
      where
        go : (u : Bool) → eqb h k ≡ u → (suc k ≤ h → Runs (rows fm t a) (rows fm t b) (by_area n (suc k) one) (by_area n (suc k) other))
            → Runs (rows fm t a) (rows fm t b) (by_area (suc n) k one) (by_area (suc n) k other)
        go true e f = rw (eqb-true h k e) at (runs_here n)
        go false e f =
            let r = f (omega (arith, eqb-false h k e)) in
            record {
              before = of_area k one ++ r.before;
              behind = r.behind;
              has = ap (λ (z : List Fixup). of_area k one ++ z) r.has ∙ sym (append_assoc (of_area k one) r.before _);
              has-exchanged = rw (← elsewhere k (eqb-false h k e)) (ap (λ (z : List Fixup). of_area k one ++ z) r.has-exchanged ∙ sym (append_assoc (of_area k one) r.before _));
            }

  pub grouped-together : area_of a.body ≡ area_of b.body → Runs (rows fm t a) (rows fm t b) (by_area (kept_count t.areas) 0 one) (by_area (kept_count t.areas) 0 other)
  grouped-together e = go (home t a.body) refl
    where
      same : home t a.body ≡ home t b.body
      same = one-home t a.body b.body e

      go : (o : Option ℕ) → home t a.body ≡ o → Runs (rows fm t a) (rows fm t b) (by_area (kept_count t.areas) 0 one) (by_area (kept_count t.areas) 0 other)
      go none f =
          let ra = no_rows fm t a f in
          let rb = no_rows fm t b (sym same ∙ f) in
          record {
            before = by_area (kept_count t.areas) 0 (x ++ y);
            behind = [];
            has = rw (ra, rb) (sym (append-nil _));
            has-exchanged = rw (ra, rb) (sym (append-nil _));
          }
      go (some h) f = runs-from h f (sym same ∙ f) (kept_count t.areas) 0 (omega arith) (omega (arith, home_below t a.body h f))

-- ------------------------------------------------------------------ as numbers

flat-four : {A : Type 0} (g : A → List ℕ) (u v w z : List A) → flat g (u ++ (v ++ (w ++ z))) ≡ flat g u ++ (flat g v ++ (flat g w ++ flat g z))
flat-four g u v w z = simp (flat_append g)

pub flat-runs : {A : Type 0} (g : A → List ℕ) {u v xs ys : List A} → Runs u v xs ys → Runs (flat g u) (flat g v) (flat g xs) (flat g ys)
flat-runs g {u} {v} r = record {
  before = flat g r.before;
  behind = flat g r.behind;
  has = ap (flat g) r.has ∙ flat-four g r.before u v r.behind;
  has-exchanged = ap (flat g) r.has-exchanged ∙ flat-four g r.before v u r.behind;
}
