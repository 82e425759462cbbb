-- By the id of a kept area and a position in it: what is told equals the image of every accepted module, and 20 is given
-- exactly where there is no such position.
-- Assumes nothing.
use Prim.Native.Nat.{ℕ, zero, suc, ◌+◌, ◌≤◌, ◌<◌}
use mathlib.Core.Path.{◌≡◌, refl, sym, ap, subst, ◌∙◌}
use mathlib.Core.Bool.{Bool, true, false}
use mathlib.Core.List.{List, [], ◌∷◌}
use mathlib.Core.Option.{Option, none, some}
use native.Mathlib.Nat.{add-zero}
use native.Mathlib.Omega.{arith}
use lib.ListN.{take, drop}
use borrow.Author.Tests.{lt-ltb, le-ltb}
use Rattle.format.specs.Lists.{pick}
use Rattle.format.specs.Outcome.{Outcome, fine, refused, and_then}
use Rattle.format.specs.Reading.{Lent, Read, read}
use Rattle.format.specs.Tables.{Area, kept, kept_size, total, rank, offset}
use Rattle.format.specs.Placing.{extent}
use Rattle.laws.proofs.Outcomes.{follow}
use Rattle.last_writer.specs.LastWriter.{Span, span_from, position_in, last_writer, writer_of, writer_in, Told}
use Rattle.order.proofs.Areas.{ends-inside}
use Rattle.laws.proofs.WasRead.{what-was-read}
use Rattle.last_writer.proofs.Image.{the-last-writer-tells-the-image}

-- ------------------------------------------------------------------ the kept area with an id

-- the i-th area has the id, and its image is the span
pub record Has (areas : List Area) (at k id i : ℕ) (s : Span) : Type 0 where
  pub rank_is : rank k areas i ≡ some (k + id)
  pub start_is : s.start ≡ at + offset areas i
  pub size_is : s.size ≡ extent areas i

-- one that the list has
pub record Some (areas : List Area) (at k id : ℕ) (s : Span) : Type 0 where
  pub index : ℕ
  pub has : Has areas at k id index s

pick-size : (a : Area) → kept a ≡ true → kept_size a ≡ a.size
unfolding kept_size
pick-size a e = rw e

pick-none : (a : Area) → kept a ≡ false → kept_size a ≡ 0
unfolding kept_size
pick-none a e = rw e

-- an area of the list behind a first one
has-behind : (a : Area) (areas : List Area) (at k id i : ℕ) (s : Span) (b c d : ℕ) → Has areas b c d i s → c ≡ k + pick (kept a) 1 0 → b ≡ at + kept_size a → c + d ≡ k + id
    → Has (a ∷ areas) at k id (suc i) s
unfolding rank offset extent total
has-behind a areas at k id i s b c d h p q r = record {
  rank_is = rw (← p) (h.rank_is ∙ ap (λ (n : ℕ). some n) r);
  start_is = omega (arith, h.start_is);
  size_is = h.size_is;
}

has_first : (a : Area) (areas : List Area) (at k : ℕ) → kept a ≡ true → Has (a ∷ areas) at k 0 0 (record { start = at; size = a.size })
unfolding rank offset extent total
has_first a areas at k e = record {
  rank_is = rw e (ap (λ (n : ℕ). some n) (sym (add-zero k)));
  start_is = omega arith;
  size_is = omega (arith, pick-size a e);
}

some-behind : (a : Area) (areas : List Area) (at k id : ℕ) (s : Span) (b c d : ℕ) → Some areas b c d s → c ≡ k + pick (kept a) 1 0 → b ≡ at + kept_size a → c + d ≡ k + id → Some (a ∷ areas) at k id s
some-behind a areas at k id s b c d h p q r = record { index = suc h.index; has = has-behind a areas at k id h.index s b c d h.has p q r }

no_span : {C : Type 0} (s : Span) → ◌≡◌ {A = Option Span} none (some s) → C
no_span s e = let z : ◌≡◌ {A = ℕ} 0 1 = cc in let y : ⊥ = omega arith in absurd y

no-rank : {C : Type 0} (n : ℕ) → ◌≡◌ {A = Option ℕ} none (some n) → C
no-rank n e = let z : ◌≡◌ {A = ℕ} 0 1 = cc in let y : ⊥ = omega arith in absurd y

-- a span that is found is that of a kept area with the id
pub a-span-is-an-areas : (areas : List Area) (at k id : ℕ) (s : Span) → span_from at areas id ≡ some s → Some areas at k id s
unfolding span_from
a-span-is-an-areas [] at k id s e = no_span s e
a-span-is-an-areas (a ∷ areas) at k zero s e = go (kept a) refl (a-span-is-an-areas areas at k zero s) e
  where
    go : (t : Bool) → kept a ≡ t → (span_from at areas zero ≡ some s → Some areas at k zero s) → pick t (some (record { start = at; size = a.size })) (span_from at areas zero) ≡ some s → Some (a ∷ areas) at k zero s
    go true c f h = let same : record { start = at; size = a.size } ≡ s = cc in
        let here : Some (a ∷ areas) at k 0 (record { start = at; size = a.size }) = record { index = 0; has = has_first a areas at k c } in
        rw same at here
    go false c f h = some-behind a areas at k zero s at k zero (f h) (rw c (sym (add-zero k))) (omega (arith, pick-none a c)) refl
a-span-is-an-areas (a ∷ areas) at k (suc id) s e = go (kept a) refl (a-span-is-an-areas areas (at + a.size) (suc k) id s) (a-span-is-an-areas areas at k (suc id) s) e
  where
    go : (t : Bool) → kept a ≡ t → (span_from (at + a.size) areas id ≡ some s → Some areas (at + a.size) (suc k) id s) → (span_from at areas (suc id) ≡ some s → Some areas at k (suc id) s)
        → pick t (span_from (at + a.size) areas id) (span_from at areas (suc id)) ≡ some s → Some (a ∷ areas) at k (suc id) s
    go true c f g h = some-behind a areas at k (suc id) s (at + a.size) (suc k) id (f h) (rw c (omega arith)) (omega (arith, pick-size a c)) (omega arith)
    go false c f g h = some-behind a areas at k (suc id) s at k (suc id) (g h) (rw c (sym (add-zero k))) (omega (arith, pick-none a c)) refl

-- and every kept area has one

rank-low : (k : ℕ) (areas : List Area) (i m : ℕ) → rank k areas i ≡ some m → k ≤ m
unfolding rank
rank-low k [] i m e = no-rank m e
rank-low k (a ∷ areas) zero m e = go (kept a) e
  where
    go : (t : Bool) → pick t (some k) none ≡ some m → k ≤ m
    go true h = let same : k ≡ m = cc in omega arith
    go false h = no-rank m h
rank-low k (a ∷ areas) (suc i) m e = omega (arith, rank-low (k + pick (kept a) 1 0) areas i m e)

unfoldable pub span_of : List Area → ℕ → ℕ → Span
span_of areas at i = record { start = at + offset areas i; size = extent areas i }

span-cons : (a : Area) (areas : List Area) (at b i : ℕ) → b ≡ at + kept_size a → span_of areas b i ≡ span_of (a ∷ areas) at (suc i)
unfolding span_of offset extent total
span-cons a areas at b i e = let z : b + total (take i areas) ≡ at + (kept_size a + total (take i areas)) = omega arith in λ j. record { start = z j; size = total (take 1 (drop i areas)) }

span-here : (a : Area) (areas : List Area) (at : ℕ) → kept a ≡ true → record { start = at; size = a.size } ≡ span_of (a ∷ areas) at 0
unfolding span_of offset extent total
span-here a areas at e =
    let y : at ≡ at + 0 = omega arith in
    let z : a.size ≡ kept_size a + 0 = omega (arith, pick-size a e) in
    λ j. record { start = y j; size = z j }

span-some : (o : Option Span) (s u : Span) → o ≡ some s → s ≡ u → o ≡ some u
span-some o s u e f = e ∙ ap (λ (x : Span). some x) f

pub an-areas-span : (areas : List Area) (at k id i : ℕ) → rank k areas i ≡ some (k + id) → span_from at areas id ≡ some (span_of areas at i)
unfolding rank span_from
an-areas-span [] at k id i e = no-rank (k + id) e
an-areas-span (a ∷ areas) at k zero zero e = go (kept a) refl e
  where
    go : (t : Bool) → kept a ≡ t → pick t (some k) none ≡ some (k + 0) → pick t (some (record { start = at; size = a.size })) (span_from at areas zero) ≡ some (span_of (a ∷ areas) at 0)
    go true c h = ap (λ (x : Span). some x) (span-here a areas at c)
    go false c h = no-rank (k + 0) h
an-areas-span (a ∷ areas) at k (suc id) zero e = go (kept a) e
  where
    go : (t : Bool) → pick t (some k) none ≡ some (k + suc id) → pick (kept a) (span_from (at + a.size) areas id) (span_from at areas (suc id)) ≡ some (span_of (a ∷ areas) at 0)
    go true h = let z : k ≡ k + suc id = cc in let y : ⊥ = omega arith in absurd y
    go false h = no-rank (k + suc id) h
an-areas-span (a ∷ areas) at k zero (suc i) e = go (kept a) refl (rank-low (k + pick (kept a) 1 0) areas i (k + 0) e) (λ h. an-areas-span areas at k zero i h) e
  where
    go : (t : Bool) → kept a ≡ t → k + pick (kept a) 1 0 ≤ k + 0 → (rank k areas i ≡ some (k + 0) → span_from at areas zero ≡ some (span_of areas at i)) → rank (k + pick (kept a) 1 0) areas i ≡ some (k + 0)
        → pick t (some (record { start = at; size = a.size })) (span_from at areas zero) ≡ some (span_of (a ∷ areas) at (suc i))
    go true c l f h = let y : ⊥ = omega (arith, rw c at l) in absurd y
    go false c l f h = span-some (span_from at areas zero) _ _ (f (subst (λ (n : ℕ). rank n areas i ≡ some (k + 0)) (rw c (omega arith)) h)) (span-cons a areas at at i (omega (arith, pick-none a c)))
an-areas-span (a ∷ areas) at k (suc id) (suc i) e = go (kept a) refl (an-areas-span areas (at + a.size) (suc k) id i) (an-areas-span areas at k (suc id) i) e
  where
    go : (t : Bool) → kept a ≡ t → (rank (suc k) areas i ≡ some (suc k + id) → span_from (at + a.size) areas id ≡ some (span_of areas (at + a.size) i))
        → (rank k areas i ≡ some (k + suc id) → span_from at areas (suc id) ≡ some (span_of areas at i)) → rank (k + pick (kept a) 1 0) areas i ≡ some (k + suc id)
        → pick t (span_from (at + a.size) areas id) (span_from at areas (suc id)) ≡ some (span_of (a ∷ areas) at (suc i))
    go true c f g h =
        let z : k + suc id ≡ suc k + id = omega arith in
        let y : rank (suc k) areas i ≡ some (k + suc id) = subst (λ (n : ℕ). rank n areas i ≡ some (k + suc id)) (rw c (omega arith)) h in
        span-some (span_from (at + a.size) areas id) _ _ (f (y ∙ ap (λ (n : ℕ). some n) z)) (span-cons a areas at (at + a.size) i (omega (arith, pick-size a c)))
    go false c f g h = span-some (span_from at areas (suc id)) _ _ (g (subst (λ (n : ℕ). rank n areas i ≡ some (k + suc id)) (rw c (omega arith)) h)) (span-cons a areas at at i (omega (arith, pick-none a c)))

-- ------------------------------------------------------------------ every accepted module, every position

module _ (ended : Bool) (b : Lent) (text : List ℕ) (id position : ℕ) where
  -- for every accepted module and every position of a kept area it equals the image
  pub what-is-told-is-the-image : (w : Read) (i : ℕ) → read ended b text ≡ fine w → rank 0 w.built.tables.areas i ≡ some id → position < extent w.built.tables.areas i → Told ended b text w id position i
  unfolding writer_in writer_of span_of
  what-is-told-is-the-image w i h r l =
      let areas = w.built.tables.areas in
      let at : ℕ = offset areas i + position in
      let r' : rank 0 areas i ≡ some (0 + id) = r ∙ ap (λ (n : ℕ). some n) (omega arith) in
      let span = an-areas-span areas 0 0 id i r' in
      let place : position_in position (span_from 0 areas id) ≡ fine at =
      ap (position_in position) span ∙ simp (lt-ltb position (extent areas i) l) (ap {B = Outcome ℕ} fine (omega arith)) in
      let tells = the-last-writer-tells-the-image w.parsed.form w.built.tables w.parsed.records.pairs w.built.state at (what-was-read ended b text w h).builds.placed (omega (arith, ends-inside areas i)) in
      record {
        found = last_writer w.parsed.form w.built.tables w.parsed.records.pairs at;
        answered = follow (read ended b text) _ h (follow (position_in position (span_from 0 areas id)) _ place refl);
        value = tells.value;
        mask = tells.mask;
      }

  -- 20 where no kept area has the id, or the one that has it ends before the position
  pub no-such-position-is-20 : (w : Read) → read ended b text ≡ fine w → ((i : ℕ) → rank 0 w.built.tables.areas i ≡ some id → extent w.built.tables.areas i ≤ position)
      → writer_in ended b text id position ≡ refused 20 0
  unfolding writer_in writer_of
  no-such-position-is-20 w h f =
      let areas = w.built.tables.areas in
      follow (read ended b text) _ h (go areas f (span_from 0 areas id) refl)
    where
      go : (areas : List Area) → ((i : ℕ) → rank 0 areas i ≡ some id → extent areas i ≤ position) → (o : Option Span) → span_from 0 areas id ≡ o
          → and_then (position_in position o) (λ i. fine (last_writer w.parsed.form w.built.tables w.parsed.records.pairs i)) ≡ refused 20 0
      go areas f none e = refl
      go areas f (some s) e =
          let k = a-span-is-an-areas areas 0 0 id s e in
          let z : 0 + id ≡ id = omega arith in
          let l = f k.index (k.has.rank_is ∙ ap (λ (n : ℕ). some n) z) in
          rw (le-ltb position s.size (omega (arith, k.has.size_is)))

  -- the module's own refusals come first
  pub a-refused-module-is-refused : (n p : ℕ) → read ended b text ≡ refused n p → writer_in ended b text id position ≡ refused n p
  unfolding writer_in
  a-refused-module-is-refused n p h = rw h
