-- The conditions over rows are those over the records that the rows stand for.
-- Assumes nothing.
use Prim.Native.Nat.{ℕ, zero, suc, ◌+◌, ◌-◌, ◌*◌, ◌≤◌, ◌<◌}
use mathlib.Core.Path.{◌≡◌, refl, ap, sym, subst, ◌∙◌}
use mathlib.Core.Bool.{Bool, true, false, not, ◌&&◌}
use mathlib.Core.List.{List, [], ◌∷◌}
use native.Mathlib.Omega.{arith}
use lib.Dec.{leb}
use lib.ListN.{length, get_or, drop, drop_of_length-le}
use lib.Seq.{drop-cons}
use borrow.Author.Tests.{le-leb, leb-true, leb-false}
use Rattle.format.specs.Header.{Form}
use Rattle.format.specs.Pairs.{Content, Fragment, Pair, Relocation, placed}
use Rattle.format.specs.Records.{Taken}
use Rattle.format.specs.Tables.{Tables}
use Rattle.laws.specs.Rows.{areas_in, from}
use Rattle.order.specs.Writes.{writes}
use Rattle.record_rows.specs.RecordRows.{pair_columns}
use Rattle.record_parts.specs.Parts.{fragment_from}
use Rattle.one_position.specs.Back.{RowIs, RowsAre, no_pair}
use Rattle.laid.specs.Fit.{fit, fit_by, fit_fragment, fit_fragments, misses, misses_all}
use Rattle.laid.proofs.Step.{both_true}
use Rattle.fit_rows.specs.Fits.{form_by, body_at, bodies_from, clear_from, end_at, apart_at, apart_from, fits_rows, meets}
use Rattle.laid_by_rows.proofs.Numbers.{the-fragments}
use Rattle.laid_by_rows.proofs.Spans.{Good, row-misses, missed-is}

-- bodies alone, and positions alone
abbrev pub bodies_of : Form → List (Taken Pair) → Bool
bodies_of fm [] = true
bodies_of fm (p ∷ ps) = fit_by fm p.body && bodies_of fm ps

abbrev apart_of : Form → Tables → List (Taken Pair) → Bool
apart_of fm t [] = true
apart_of fm t (p ∷ ps) = misses_all fm t p ps && apart_of fm t ps

exchanged : (a b c d : Bool) → (a && (b && (c && d))) ≡ ((a && c) && (b && d))
exchanged true true c d = refl
exchanged true false true d = refl
exchanged true false false d = refl
exchanged false b c d = refl

fit_is : (fm : Form) (t : Tables) (ps : List (Taken Pair)) → fit fm t ps ≡ (bodies_of fm ps && apart_of fm t ps)
unfolding fit
fit_is fm t [] = refl
fit_is fm t (p ∷ ps) = ap (λ (b : Bool). fit_by fm p.body && (misses_all fm t p ps && b)) (fit_is fm t ps) ∙ exchanged (fit_by fm p.body) (misses_all fm t p ps) (bodies_of fm ps) (apart_of fm t ps)

-- only the address length matters
by_width : (fm : Form) (width : ℕ) → width ≡ fm.address_length → (fs : List Fragment) → fit_fragments (form_by width) fs ≡ fit_fragments fm fs
unfolding fit_fragments fit_fragment
by_width fm width e [] = refl
by_width fm width e (f ∷ fs) = rw (by_width fm width e fs, e)

gone : (qs : List (Taken Pair)) (k : ℕ) → length qs ≤ k → drop k qs ≡ []
gone qs k h = drop_of_length-le qs h

-- the k-th pair, and those behind it
ahead : (qs : List (Taken Pair)) (k : ℕ) → k < length qs → drop k qs ≡ get_or qs k no_pair ∷ drop (suc k) qs
ahead qs k h = drop-cons qs k no_pair h

module _ (fm : Form) (t : Tables) (areas : List ℕ) (na : ℕ) (few : na ≤ 64) (are : areas_in areas na ≡ t.areas) (pairs content fragments : List ℕ) (n : ℕ) (qs : List (Taken Pair))
    (R : RowsAre fm t pairs content fragments n qs) (width : ℕ) (ew : width ≡ fm.address_length) where
  body_is : (k : ℕ) (r : RowIs fm t pairs content fragments qs k) → body_at width pairs fragments k ≡ fit_by fm (get_or qs k no_pair).body
  unfolding body_at
  body_is k r = ap (fit_fragments (form_by width)) (the-fragments r.stands) ∙ (by_width fm width ew r.relocation.fragments ∙ sym (ap (λ (p : Taken Pair). fit_by fm p.body) r.is))

  bodies-are : (m k : ℕ) → k + m ≡ n → bodies_from width pairs fragments k m ≡ bodies_of fm (drop k qs)
  unfolding bodies_from
  bodies-are zero k e = sym (ap (bodies_of fm) (gone qs k (omega (arith, R.many))))
  bodies-are (suc m) k e =
      let l : k < n = omega arith in
      ap (λ (b : Bool). b && bodies_from width pairs fragments (suc k) m) (body_is k (R.each k l))
      ∙ (ap (λ (b : Bool). fit_by fm (get_or qs k no_pair).body && b) (bodies-are m (suc k) (omega arith))
      ∙ sym (ap (bodies_of fm) (ahead qs k (omega (arith, R.many)))))

  -- each of them is within the conditions
  each-body : (m k : ℕ) → k + m ≡ n → bodies_of fm (drop k qs) ≡ true → (j : ℕ) → k ≤ j → j < n → fit_by fm (get_or qs j no_pair).body ≡ true
  each-body zero k e h j l u = absurd (omega arith)
  each-body (suc m) k e h j l u =
      let b = both_true (fit_by fm (get_or qs k no_pair).body) (bodies_of fm (drop (suc k) qs)) (ap (bodies_of fm) (sym (ahead qs k (omega (arith, R.many)))) ∙ h) in
      go (leb j k) refl b.0 (each-body m (suc k) (omega arith) b.1 j)
    where
      go : (u : Bool) → leb j k ≡ u → fit_by fm (get_or qs k no_pair).body ≡ true → (suc k ≤ j → j < n → fit_by fm (get_or qs j no_pair).body ≡ true) → fit_by fm (get_or qs j no_pair).body ≡ true
      go true f now later = let same : j ≡ k = omega (arith, leb-true j k f) in rw same now
      go false f now later = later (omega (arith, leb-false j k f)) u

  module _ (h : bodies_of fm qs ≡ true) where
    good : (k : ℕ) (l : k < n) → Good fm t pairs content fragments k (R.each k l).place (R.each k l).content-is (R.each k l).relocation
    good k l =
        let r = R.each k l in
        record { stands = r.stands; sound = r.sound; fits = ap (λ (p : Taken Pair). fit_by fm p.body) (sym r.is) ∙ each-body n 0 (omega arith) h k (omega arith) l }

    one-row : (k j : ℕ) (lk : k < n) (lj : j < n) → not (meets pairs (get_or pairs (pair_columns * k + 2) 0) (get_or pairs (pair_columns * k + 1) 0) (end_at areas na pairs k) j)
        ≡ misses (writes fm t (get_or qs k no_pair)) (writes fm t (get_or qs j no_pair))
    one-row k j lk lj =
        let p = R.each k lk in
        let q = R.each j lj in
        sym (row-misses fm t areas na few are pairs content fragments k j p.place q.place p.content-is q.content-is p.relocation q.relocation (good k lk) (good j lj))
        ∙ (missed-is fm t areas na few are pairs content fragments k j p.place q.place p.content-is q.content-is p.relocation q.relocation (good k lk) (good j lj)
        ∙ (ap (λ (x : Taken Pair). misses (writes fm t x) (writes fm t (record { place = q.place; end = 0; body = placed q.content-is q.relocation }))) (sym p.is)
        ∙ ap (λ (x : Taken Pair). misses (writes fm t (get_or qs k no_pair)) (writes fm t x)) (sym q.is)))

    clear-is : (k : ℕ) → k < n → (m j : ℕ) → j + m ≡ n → clear_from pairs (get_or pairs (pair_columns * k + 2) 0) (get_or pairs (pair_columns * k + 1) 0) (end_at areas na pairs k) j m
        ≡ misses_all fm t (get_or qs k no_pair) (drop j qs)
    unfolding clear_from misses_all
    clear-is k lk zero j e = sym (ap (misses_all fm t (get_or qs k no_pair)) (gone qs j (omega (arith, R.many))))
    clear-is k lk (suc m) j e =
        let lj : j < n = omega arith in
        ap (λ (b : Bool). b && clear_from pairs (get_or pairs (pair_columns * k + 2) 0) (get_or pairs (pair_columns * k + 1) 0) (end_at areas na pairs k) (suc j) m) (one-row k j lk lj)
        ∙ (ap (λ (b : Bool). misses (writes fm t (get_or qs k no_pair)) (writes fm t (get_or qs j no_pair)) && b) (clear-is k lk m (suc j) (omega arith))
        ∙ sym (ap (misses_all fm t (get_or qs k no_pair)) (ahead qs j (omega (arith, R.many)))))

    apart-are : (m k : ℕ) → k + m ≡ n → apart_from areas na pairs k m ≡ apart_of fm t (drop k qs)
    unfolding apart_from apart_at
    apart-are zero k e = sym (ap (apart_of fm t) (gone qs k (omega (arith, R.many))))
    apart-are (suc m) k e =
        let l : k < n = omega arith in
        ap (λ (b : Bool). b && apart_from areas na pairs (suc k) m) (clear-is k l m (suc k) (omega arith))
        ∙ (ap (λ (b : Bool). misses_all fm t (get_or qs k no_pair) (drop (suc k) qs) && b) (apart-are m (suc k) (omega arith))
        ∙ sym (ap (apart_of fm t) (ahead qs k (omega (arith, R.many)))))

  both-same : (b x y : Bool) → (b ≡ true → x ≡ y) → (b && x) ≡ (b && y)
  both-same true x y f = f refl
  both-same false x y f = refl

  -- the conditions
  pub rows_fit : n ≤ 4096 → fits_rows areas na pairs fragments n width ≡ fit fm t qs
  unfolding fits_rows
  rows_fit l =
      ap (λ (b : Bool). b && (bodies_from width pairs fragments 0 n && apart_from areas na pairs 0 n)) (le-leb n 4096 l)
      ∙ (ap (λ (b : Bool). b && apart_from areas na pairs 0 n) (bodies-are n 0 (omega arith))
      ∙ (both-same (bodies_of fm qs) (apart_from areas na pairs 0 n) (apart_of fm t qs) (λ h. apart-are h n 0 (omega arith)) ∙ sym (fit_is fm t qs)))

  -- and so is each pair
  pub fit-bodies : fit fm t qs ≡ true → (k : ℕ) (l : k < n) → Good fm t pairs content fragments k (R.each k l).place (R.each k l).content-is (R.each k l).relocation
  fit-bodies h = good (both_true (bodies_of fm qs) (apart_of fm t qs) (sym (fit_is fm t qs) ∙ h)).0
