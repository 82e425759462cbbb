-- T and P pairs, which have no row, and where a record ends do not matter.
-- Assumes nothing.
use Prim.Native.Nat.{ℕ}
use mathlib.Core.Path.{◌≡◌, refl, ap, sym, ◌∙◌}
use mathlib.Core.Bool.{Bool, true, false, not, ◌&&◌}
use mathlib.Core.List.{List, [], ◌∷◌}
use Rattle.format.specs.Header.{Form}
use Rattle.format.specs.Pairs.{Pair, placed, skipped}
use Rattle.format.specs.Records.{Taken}
use Rattle.format.specs.Tables.{Tables}
use Rattle.order.specs.Writes.{Cell, cell_at, writes}
use Rattle.record_parts.specs.Parts.{placed_in, placed_of}
use Rattle.laid.specs.Fit.{fit, fit_by, misses, misses_all}
use Rattle.laid.specs.Laid.{Chosen, laid_by, laid_pairs}

misses-none : (cs : List Cell) → misses cs [] ≡ true
unfolding misses cell_at
misses-none [] = refl
misses-none (c ∷ cs) = misses-none cs

module _ (fm : Form) (t : Tables) where
  no_cells : (place end : ℕ) → writes fm t (record { place = place; end = end; body = skipped }) ≡ []
  unfolding writes
  no_cells place end = refl

  same-cells : (place end : ℕ) (x : Pair) → writes fm t (record { place = place; end = 0; body = x }) ≡ writes fm t (record { place = place; end = end; body = x })
  unfolding writes
  same-cells place end x = refl

  same_end : (place end : ℕ) (x : Pair) (ps : List (Taken Pair)) → misses_all fm t (record { place = place; end = 0; body = x }) ps ≡ misses_all fm t (record { place = place; end = end; body = x }) ps
  unfolding misses_all writes
  same_end place end x [] = refl
  same_end place end x (q ∷ qs) = ap (λ (b : Bool). misses (writes fm t (record { place = place; end = end; body = x })) (writes fm t q) && b) (same_end place end x qs)

  skipped-misses : (place end : ℕ) (ps : List (Taken Pair)) → misses_all fm t (record { place = place; end = end; body = skipped }) ps ≡ true
  unfolding misses_all writes misses
  skipped-misses place end [] = refl
  skipped-misses place end (q ∷ qs) = skipped-misses place end qs

  placed-misses : (p : Taken Pair) (ps : List (Taken Pair)) → misses_all fm t p (placed_of ps) ≡ misses_all fm t p ps
  unfolding placed_of misses_all
  placed-misses p [] = refl
  placed-misses p (q ∷ qs) = go q.place q.end q.body (placed-misses p qs)
    where
      go : (place end : ℕ) (x : Pair) → misses_all fm t p (placed_of qs) ≡ misses_all fm t p qs
          → misses_all fm t p (placed_in place x (placed_of qs)) ≡ misses_all fm t p (record { place = place; end = end; body = x } ∷ qs)
      go place end skipped ih = ih ∙ sym (ap (λ (b : Bool). b && misses_all fm t p qs) (ap (misses (writes fm t p)) (no_cells place end) ∙ misses-none (writes fm t p)))
      go place end (placed c r) ih = ap (λ (b : Bool). misses (writes fm t p) (writes fm t (record { place = place; end = 0; body = placed c r })) && b) ih ∙ ap (λ (cs : List Cell). misses (writes fm t p) cs && misses_all fm t p qs) (same-cells place end (placed c r))

  -- the same module
  pub placed-fit : (ps : List (Taken Pair)) → fit fm t (placed_of ps) ≡ fit fm t ps
  unfolding placed_of fit
  placed-fit [] = refl
  placed-fit (p ∷ ps) = go p.place p.end p.body (placed-fit ps)
    where
      go : (place end : ℕ) (x : Pair) → fit fm t (placed_of ps) ≡ fit fm t ps → fit fm t (placed_in place x (placed_of ps)) ≡ fit fm t (record { place = place; end = end; body = x } ∷ ps)
      go place end skipped ih = ih ∙ sym (ap (λ (b : Bool). b && fit fm t ps) (skipped-misses place end ps))
      go place end (placed c r) ih =
          ap (λ (b : Bool). fit_by fm (placed c r) && (misses_all fm t (record { place = place; end = 0; body = placed c r }) (placed_of ps) && b)) ih
          ∙ ap (λ (b : Bool). fit_by fm (placed c r) && (b && fit fm t ps)) (placed-misses (record { place = place; end = 0; body = placed c r }) ps ∙ same_end place end (placed c r) ps)

  pub placed-laid : (ch : Chosen) (ps : List (Taken Pair)) (image : List ℕ) → laid_pairs fm t ch (placed_of ps) image ≡ laid_pairs fm t ch ps image
  unfolding placed_of laid_pairs
  placed-laid ch [] image = refl
  placed-laid ch (p ∷ ps) image = go p.place p.end p.body image (λ i. placed-laid ch ps i)
    where
      go : (place end : ℕ) (x : Pair) (image : List ℕ) → ((i : List ℕ) → laid_pairs fm t ch (placed_of ps) i ≡ laid_pairs fm t ch ps i)
          → laid_pairs fm t ch (placed_in place x (placed_of ps)) image ≡ laid_pairs fm t ch (record { place = place; end = end; body = x } ∷ ps) image
      go place end skipped image ih = ih image
      go place end (placed c r) image ih = ih (laid_by fm t ch place image (placed c r))
