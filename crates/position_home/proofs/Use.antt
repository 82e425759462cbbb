-- What the home for a position says: 20, or whose image the position lies in.
-- Assumes nothing.
use Prim.Native.Nat.{ℕ, zero, suc, ◌+◌, ◌≤◌, ◌<◌}
use mathlib.Core.Path.{◌≡◌, refl, ap, sym, subst, ◌∙◌}
use mathlib.Core.Bool.{Bool, true, false, false≢true}
use mathlib.Core.List.{List}
use mathlib.Core.Option.{Option, none, some}
use native.Mathlib.Numerals.{add-one}
use native.Mathlib.Omega.{arith}
use lib.Dec.{eqb, leb, ltb}
use borrow.Author.Tests.{eq-eqb, eqb-true, eqb-false, leb-true, leb-false, ltb-true}
use Rattle.format.specs.Lists.{pick}
use Rattle.format.specs.Outcome.{refused}
use Rattle.format.specs.Placing.{extent}
use Rattle.format.specs.Tables.{offset, rank}
use Rattle.laws.specs.Rows.{areas_in}
use Rattle.laws.proofs.Areas.{rank-past}
use Rattle.homes.specs.declared.Home.{Home}
use Rattle.homes.specs.Home.{home_at, home_by_of, no_home}
use Rattle.homes.proofs.Use.{by_rank}
use Rattle.last_writer.specs.LastWriter.{Span, position_in, span_from}
use Rattle.last_writer.proofs.Spans.{a-span-is-an-areas, an-areas-span, span_of}
use Rattle.position_home.specs.Homed.{home_for, home_from, HomeIs, HomeForIs}

-- none of the areas before the i-th has the id
record Before (areas : List ℕ) (n id i : ℕ) : Type 0 where
  inside : i ≤ n
  none_before : (j : ℕ) → j < i → rank 0 (areas_in areas n) j ≡ some id → ⊥

-- what a home by a rank says
home_by : (areas : List ℕ) (n id i : ℕ) (o : Option ℕ) (h : Home) → rank 0 (areas_in areas n) i ≡ o → h ≡ home_by_of i (offset (areas_in areas n) i) (extent (areas_in areas n) i) o
    → (eqb h.id (suc id) ≡ true → HomeIs areas n id h) × (eqb h.id (suc id) ≡ false → o ≡ some id → ⊥)
unfolding span_of
home_by areas n id i none h r e = (λ t. let g : h.id ≡ 0 = ap (λ (x : Home). x.id) e in let y : ⊥ = omega (arith, eqb-true h.id (suc id) t) in absurd y, λ t f. let z : ◌≡◌ {A = ℕ} 0 1 = cc in let y : ⊥ = omega arith in y)
home_by areas n id i (some k) h r e = (
  (λ t.
      let g : h.id ≡ suc k = rw e (add-one k) in
      let same : k ≡ id = omega (arith, eqb-true h.id (suc id) t) in
      let area : i ≡ h.area = sym (ap (λ (x : Home). x.area) e) in
      let ranked : rank 0 (areas_in areas n) i ≡ some id = r ∙ ap (λ (x : ℕ). some x) same in
      record {
        missing = λ z. let y : ⊥ = omega arith in absurd y;
        present = λ f. record {
          ranked = rw area at ranked;
          home = e ∙ (ap (λ (x : ℕ). home_by_of i (offset (areas_in areas n) i) (extent (areas_in areas n) i) (some x)) same ∙ ap (λ (x : ℕ). home_by_of x (offset (areas_in areas n) x) (extent (areas_in areas n) x) (some id)) area);
          span = span-is i ranked ∙ ap (λ (x : ℕ). some (record { start = offset (areas_in areas n) x; size = extent (areas_in areas n) x })) area;
        };
      }),
  λ t f.
      let g : h.id ≡ suc k = rw e (add-one k) in
      let same : k ≡ id = cc in
      false≢true (sym t ∙ eq-eqb h.id (suc id) (omega arith)),
)
  where
    span-is : (j : ℕ) → rank 0 (areas_in areas n) j ≡ some id → span_from 0 (areas_in areas n) id ≡ some (record { start = offset (areas_in areas n) j; size = extent (areas_in areas n) j })
    span-is j f =
        let z : 0 + id ≡ id = omega arith in
        let y : 0 + offset (areas_in areas n) j ≡ offset (areas_in areas n) j = omega arith in
        an-areas-span (areas_in areas n) 0 0 id j (f ∙ ap (λ (x : ℕ). some x) (sym z)) ∙ ap (λ (x : ℕ). some (record { start = x; size = extent (areas_in areas n) j })) y

module _ {areas : List ℕ} {n id i : ℕ} (w : Before areas n id i) where
  past_all : n ≤ i → HomeIs areas n id (record { area = 0; id = 0; start = 0; size = 0 })
  unfolding areas_in
  past_all l = record { missing = λ z. go (span_from 0 (areas_in areas n) id) refl; present = λ f. absurd (f refl) }
    where
      go : (o : Option Span) → span_from 0 (areas_in areas n) id ≡ o → o ≡ none
      go none e = refl
      go (some s) e =
          let k = a-span-is-an-areas (areas_in areas n) 0 0 id s e in
          let z : 0 + id ≡ id = omega arith in
          absurd (at k.index (leb n k.index) refl (k.has.rank_is ∙ ap (λ (x : ℕ). some x) z))
        where
          at : (j : ℕ) (b : Bool) → leb n j ≡ b → rank 0 (areas_in areas n) j ≡ some id → ⊥
          at j true h r = let z : ◌≡◌ {A = ℕ} 0 1 = cc (rank-past areas 0 0 n j (leb-true n j h)) in omega arith
          at j false h r = w.none_before j (omega (arith, leb-false n j h, l, w.inside)) r

  module _ (m : n ≤ 64) (l : i < n) {h : Home} (e : h ≡ home_at areas n i) {b : Bool} (eb : b ≡ eqb h.id (suc id)) where
    found_here : b ≡ true → HomeIs areas n id h
    found_here f = (home_by areas n id i (rank 0 (areas_in areas n) i) h refl (by_rank areas n i e m)).0 (sym eb ∙ f)

    not-here : b ≡ false → Before areas n id (i + 1)
    not-here f = record {
      inside = omega arith;
      none_before = λ j k r. at j (eqb j i) refl k r;
    }
      where
        at : (j : ℕ) (c : Bool) → eqb j i ≡ c → j < i + 1 → rank 0 (areas_in areas n) j ≡ some id → ⊥
        at j true d k r = (home_by areas n id i (rank 0 (areas_in areas n) i) h refl (by_rank areas n i e m)).1 (sym eb ∙ f) (ap (λ (x : ℕ). rank 0 (areas_in areas n) x) (sym (eqb-true j i d)) ∙ r)
        at j false d k r = w.none_before j (omega (arith, eqb-false j i d)) r

-- the home that is found among all areas
pub the-home : (areas : List ℕ) (n id : ℕ) → n ≤ 64 → HomeIs areas n id (home_from areas n id 0 n)
unfolding home_from
the-home areas n id few = go n 0 (omega arith) (record { inside = omega arith; none_before = λ j h e. let z : ⊥ = omega arith in z })
  where
    go : (m i : ℕ) → i + m ≡ n → Before areas n id i → HomeIs areas n id (home_from areas n id i m)
    go zero i s w = past_all w (omega arith)
    go (suc m) i s w = at (λ k. go m (suc i) (omega arith) k) (eqb (home_at areas n i).id (suc id)) refl
      where
        at : (Before areas n id (suc i) → HomeIs areas n id (home_from areas n id (suc i) m)) → (b : Bool) → eqb (home_at areas n i).id (suc id) ≡ b
            → HomeIs areas n id (pick b (home_at areas n i) (home_from areas n id (suc i) m))
        at on true e = found_here w few (omega arith) refl refl e
        at on false e = on (rw add-one at (not-here w few (omega arith) refl refl e))

-- with the position
pub the-home-for : (areas : List ℕ) (n id position : ℕ) → n ≤ 64 → {h : Home} → h ≡ home_for areas n id position → HomeForIs areas n id position h
unfolding home_for
the-home-for areas n id position few {h} e = subst (λ (x : Home). HomeForIs areas n id position x) (sym e) (go (home_from areas n id 0 n) (the-home areas n id few) (ltb position (home_from areas n id 0 n).size) refl)
  where
    go : (g : Home) → HomeIs areas n id g → (b : Bool) → ltb position g.size ≡ b → HomeForIs areas n id position (pick b g (no_home 0))
    go g w true l = record {
      twenty = λ z. rw (w.missing z);
      present = w.present;
      inside = λ f. ltb-true position g.size l;
    }
    go g w false l = record {
      twenty = λ z. at (eqb g.id 0) refl;
      present = λ f. absurd (f refl);
      inside = λ f. absurd (f refl);
    }
      where
        at : (c : Bool) → eqb g.id 0 ≡ c → position_in position (span_from 0 (areas_in areas n) id) ≡ refused 20 0
        at true k = rw (w.missing (eqb-true g.id 0 k))
        at false k =
            let p = w.present (eqb-false g.id 0 k) in
            let size_is : g.size ≡ extent (areas_in areas n) g.area = ap (λ (x : Home). x.size) p.home in
            rw (p.span, ← size_is, l)
