-- The test decides the conditions in words, no more and no less.
-- Assumes nothing.
use Prim.Native.Nat.{ℕ, ◌+◌, ◌≤◌}
use mathlib.Core.Path.{◌≡◌, refl, sym, ◌∙◌}
use mathlib.Core.Bool.{Bool, true, false, not, ◌&&◌, ◌||◌, false≢true}
use mathlib.Core.List.{List, [], ◌∷◌}
use mathlib.Core.Logic.{◌⊎◌, inl, inr}
use mathlib.Core.Option.{some}
use native.Mathlib.Omega.{arith}
use lib.Dec.{eqb, leb}
use borrow.Author.Tests.{leb-true, leb-false, le-leb, eqb-true, eq-eqb, not-true}
use Rattle.format.specs.Lists.{pick}
use Rattle.format.specs.Header.{Form}
use Rattle.format.specs.Pairs.{Fragment, Pair, skipped, placed}
use Rattle.format.specs.Mode.{Class, Addr19, Addr11, Addr24, Addr16, Byte, Other, bit, class_of, touched, touched_of}
use Rattle.format.specs.Records.{Taken}
use Rattle.format.specs.Tables.{Tables}
use Rattle.order.specs.Writes.{Cell, cell_at, writes, written, wrote}
use Rattle.order.specs.Order.{Apart}
use Rattle.laid.specs.Words.{Each, Pairwise, FragmentFits, Touches, NoCommonEntry, BodyFits, Fits}
use Rattle.laid.specs.Fit.{whole, clear, fit_fragment, beside, beside_all, fit_fragments, fit_by, misses, misses_all, fit}
use Rattle.laid.proofs.Step.{both_true}

-- ------------------------------------------------------------------ small tests

both : (a b : Bool) → a ≡ true → b ≡ true → (a && b) ≡ true
both true b h k = k
both false b h k = absurd (false≢true h)

not-false-is : (a : Bool) → a ≡ false → not a ≡ true
not-false-is false h = refl
not-false-is true h = absurd (false≢true (sym h))

whole_is : (c : Class) → whole c ≡ true → (c ≡ Addr16) ⊎ (c ≡ Addr24)
whole_is Addr19 h = absurd (false≢true h)
whole_is Addr11 h = absurd (false≢true h)
whole_is Addr24 h = inr refl
whole_is Addr16 h = inl refl
whole_is Byte h = absurd (false≢true h)
whole_is Other h = absurd (false≢true h)

is_whole : (c : Class) → (c ≡ Addr16) ⊎ (c ≡ Addr24) → whole c ≡ true
is_whole c (inl e) = rw e
is_whole c (inr e) = rw e

touched-some : (m : ℕ) → 1 ≤ touched m
unfolding touched
touched-some m = go (class_of m) (bit 8 m)
  where
    go : (c : Class) (t : Bool) → 1 ≤ touched_of c t
    go Addr19 t = omega arith
    go Addr11 t = omega arith
    go Addr24 t = omega arith
    go Addr16 t = omega arith
    go Byte t = omega arith
    go Other true = omega arith
    go Other false = omega arith

-- ------------------------------------------------------------------ fragments

fragment-to : (fm : Form) (f : Fragment) → fit_fragment fm f ≡ true → FragmentFits fm f
unfolding fit_fragment clear
fragment-to fm f h =
    let m = f.mode in
    let a = both_true (whole (class_of m)) (clear m && leb fm.address_length f.entry) h in
    let b = both_true (clear m) (leb fm.address_length f.entry) a.1 in
    let c2 = both_true (not (bit 2 m)) _ b.0 in
    let c5 = both_true (not (bit 5 m)) _ c2.1 in
    let c6 = both_true (not (bit 6 m)) _ c5.1 in
    let c9 = both_true (not (bit 9 m)) (not (bit 10 m)) c6.1 in
    record {
      class-is = whole_is (class_of m) a.0;
      bit-2 = not-true (bit 2 m) c2.0;
      bit-5 = not-true (bit 5 m) c5.0;
      bit-6 = not-true (bit 6 m) c6.0;
      bit-9 = not-true (bit 9 m) c9.0;
      bit-10 = not-true (bit 10 m) c9.1;
      behind = leb-true fm.address_length f.entry b.1;
    }

fragment-from : (fm : Form) (f : Fragment) → FragmentFits fm f → fit_fragment fm f ≡ true
unfolding fit_fragment clear
fragment-from fm f w = rw (is_whole (class_of f.mode) w.class-is, w.bit-2, w.bit-5, w.bit-6, w.bit-9, w.bit-10) (le-leb fm.address_length f.entry w.behind)

beside-to : (f g : Fragment) → beside f g ≡ true → NoCommonEntry f g
unfolding beside
beside-to f g h = record { none-common = λ e p q. go (leb (f.entry + touched f.mode) g.entry) refl h e p q }
  where
    go : (t : Bool) → leb (f.entry + touched f.mode) g.entry ≡ t → (t || leb (g.entry + touched g.mode) f.entry) ≡ true → (e : ℕ) → Touches f e → Touches g e → ⊥
    go true k d e p q = let l = leb-true (f.entry + touched f.mode) g.entry k in omega (arith, p.1, q.0)
    go false k d e p q = let l = leb-true (g.entry + touched g.mode) f.entry d in omega (arith, p.0, q.1)

beside-from : (f g : Fragment) → NoCommonEntry f g → beside f g ≡ true
unfolding beside
beside-from f g w = go (leb (f.entry + touched f.mode) g.entry) refl (leb (g.entry + touched g.mode) f.entry) refl
  where
    go : (t : Bool) → leb (f.entry + touched f.mode) g.entry ≡ t → (u : Bool) → leb (g.entry + touched g.mode) f.entry ≡ u → (t || u) ≡ true
    go true k u d = refl
    go false k true d = refl
    go false k false d = absurd (common (leb f.entry g.entry) refl)
      where
        common : (s : Bool) → leb f.entry g.entry ≡ s → ⊥
        common true e =
            let l = leb-true f.entry g.entry e in
            let x = leb-false (f.entry + touched f.mode) g.entry k in
            w.none-common g.entry (l, x) (omega arith, omega (arith, touched-some g.mode))
        common false e =
            let l = leb-false f.entry g.entry e in
            let x = leb-false (g.entry + touched g.mode) f.entry d in
            w.none-common f.entry (omega arith, omega (arith, touched-some f.mode)) (omega arith, x)

beside-all-to : (f : Fragment) (gs : List Fragment) → beside_all f gs ≡ true → Each (NoCommonEntry f) gs
unfolding beside_all
beside-all-to f [] h = tt
beside-all-to f (g ∷ gs) h = let b = both_true (beside f g) (beside_all f gs) h in (beside-to f g b.0, beside-all-to f gs b.1)

beside-all-from : (f : Fragment) (gs : List Fragment) → Each (NoCommonEntry f) gs → beside_all f gs ≡ true
unfolding beside_all
beside-all-from f [] h = refl
beside-all-from f (g ∷ gs) h = both (beside f g) (beside_all f gs) (beside-from f g h.0) (beside-all-from f gs h.1)

fragments-to : (fm : Form) (fs : List Fragment) → fit_fragments fm fs ≡ true → Each (FragmentFits fm) fs × Pairwise NoCommonEntry fs
unfolding fit_fragments
fragments-to fm [] h = (tt, tt)
fragments-to fm (f ∷ fs) h =
    let a = both_true (fit_fragment fm f) (beside_all f fs && fit_fragments fm fs) h in
    let b = both_true (beside_all f fs) (fit_fragments fm fs) a.1 in
    let r = fragments-to fm fs b.1 in
    ((fragment-to fm f a.0, r.0), (beside-all-to f fs b.0, r.1))

fragments-from : (fm : Form) (fs : List Fragment) → Each (FragmentFits fm) fs → Pairwise NoCommonEntry fs → fit_fragments fm fs ≡ true
unfolding fit_fragments
fragments-from fm [] h k = refl
fragments-from fm (f ∷ fs) h k =
    both (fit_fragment fm f) (beside_all f fs && fit_fragments fm fs) (fragment-from fm f h.0)
    (both (beside_all f fs) (fit_fragments fm fs) (beside-all-from f fs k.0) (fragments-from fm fs h.1 k.1))

body-to : (fm : Form) (b : Pair) → fit_by fm b ≡ true → BodyFits fm b
body-to fm skipped h = tt
body-to fm (placed c r) h = fragments-to fm r.fragments h

body-from : (fm : Form) (b : Pair) → BodyFits fm b → fit_by fm b ≡ true
body-from fm skipped h = refl
body-from fm (placed c r) h = fragments-from fm r.fragments h.0 h.1

-- ------------------------------------------------------------------ positions

pub misses-to : (cs ds : List Cell) (i : ℕ) → misses cs ds ≡ true → written (cell_at cs i) ≡ true → written (cell_at ds i) ≡ true → ⊥
unfolding misses cell_at
misses-to [] ds i h p q = false≢true p
misses-to (c ∷ cs) ds i h p q =
    let b = both_true (not (written (cell_at ds c.at))) (misses cs ds) h in
    go (eqb c.at i) refl (misses-to cs ds i b.1) p (not-true (written (cell_at ds c.at)) b.0)
  where
    go : (t : Bool) → eqb c.at i ≡ t → (written (cell_at cs i) ≡ true → written (cell_at ds i) ≡ true → ⊥) → written (pick t (some c) (cell_at cs i)) ≡ true → written (cell_at ds c.at) ≡ false → ⊥
    go true e f k n = let z : written (cell_at ds i) ≡ false = rw (eqb-true c.at i e) at n in false≢true (sym z ∙ q)
    go false e f k n = f k q

pub misses-from : (cs ds : List Cell) → ((i : ℕ) → written (cell_at cs i) ≡ true → written (cell_at ds i) ≡ true → ⊥) → misses cs ds ≡ true
unfolding misses cell_at
misses-from [] ds f = refl
misses-from (c ∷ cs) ds f =
    both (not (written (cell_at ds c.at))) (misses cs ds) (go (written (cell_at ds c.at)) (f c.at (first c.at refl)))
    (misses-from cs ds (λ i p q. f i (later i (eqb c.at i) p) q))
  where
    first : (i : ℕ) → c.at ≡ i → written (pick (eqb c.at i) (some c) (cell_at cs i)) ≡ true
    first i e = rw (eq-eqb c.at i e)

    later : (i : ℕ) (t : Bool) → written (cell_at cs i) ≡ true → written (pick t (some c) (cell_at cs i)) ≡ true
    later i true p = refl
    later i false p = p

    go : (t : Bool) → (t ≡ true → ⊥) → not t ≡ true
    go true k = absurd (k refl)
    go false k = refl

module _ (fm : Form) (t : Tables) where
  all-to : (p : Taken Pair) (qs : List (Taken Pair)) → misses_all fm t p qs ≡ true → Each (Apart fm t p) qs
  unfolding misses_all wrote
  all-to p [] h = tt
  all-to p (q ∷ qs) h =
      let b = both_true (misses (writes fm t p) (writes fm t q)) (misses_all fm t p qs) h in
      (record { apart = λ i x y. misses-to (writes fm t p) (writes fm t q) i b.0 x y }, all-to p qs b.1)

  all_from : (p : Taken Pair) (qs : List (Taken Pair)) → Each (Apart fm t p) qs → misses_all fm t p qs ≡ true
  unfolding misses_all wrote
  all_from p [] h = refl
  all_from p (q ∷ qs) h = both (misses (writes fm t p) (writes fm t q)) (misses_all fm t p qs) (misses-from (writes fm t p) (writes fm t q) h.0.apart) (all_from p qs h.1)

  -- the test is passed only by what fits
  pub what-passes-fits : (ps : List (Taken Pair)) → fit fm t ps ≡ true → Fits fm t ps
  unfolding fit
  what-passes-fits [] h = record { bodies = tt; apart = tt }
  what-passes-fits (p ∷ ps) h =
      let a = both_true (fit_by fm p.body) (misses_all fm t p ps && fit fm t ps) h in
      let b = both_true (misses_all fm t p ps) (fit fm t ps) a.1 in
      let r = what-passes-fits ps b.1 in
      record { bodies = (body-to fm p.body a.0, r.bodies); apart = (all-to p ps b.0, r.apart) }

  -- and by all that fits
  pub what-fits-passes : (ps : List (Taken Pair)) → Fits fm t ps → fit fm t ps ≡ true
  unfolding fit
  what-fits-passes [] w = refl
  what-fits-passes (p ∷ ps) w =
      both (fit_by fm p.body) (misses_all fm t p ps && fit fm t ps) (body-from fm p.body w.bodies.0)
      (both (misses_all fm t p ps) (fit fm t ps) (all_from p ps w.apart.0) (what-fits-passes ps (record { bodies = w.bodies.1; apart = w.apart.1 })))
