-- The definition in the code's order: 10 fragment by fragment, then the rows, then the images.
-- Assumes nothing.
use Prim.Native.Nat.{ℕ, zero, suc, ◌+◌}
use mathlib.Core.Path.{◌≡◌, refl}
use mathlib.Core.Bool.{Bool, true, false}
use mathlib.Core.List.{List}
use native.Mathlib.Nat.{add-zero}
use native.Mathlib.Numerals.{add-one}
use lib.Dec.{eqb, ltb}
use lib.ListN.{get_or, set}
use Rattle.format.specs.Lists.{pick}
use Rattle.format.specs.Outcome.{Outcome, fine, refused, and_then}
use Rattle.format.specs.Fixups.{Fixup, fixups_at}
use Rattle.format.specs.Placing.{State, Walk, passed_over, write, walk}
use Rattle.images.specs.Image.{image_walk}
use Rattle.fixups.specs.Walk.{fixups_walk}

-- a walk's state: images gone over, and the fixups
unfoldable pub imaged : Walk → (n entry position : ℕ) → State → List Fixup → State
imaged w n entry position s xs = record {
  values = image_walk w.start w.size w.work.values w.work.keeps n entry position s.values;
  masks = image_walk w.start w.size w.work.masks w.work.keeps n entry position s.masks;
  fixups = xs;
}

abbrev pub fixups_of : Walk → (n entry position : ℕ) → List Fixup → Outcome (List Fixup)
fixups_of w n entry position xs = fixups_walk w.site w.size w.fragments w.work.keeps n entry position xs

-- the rows and the images do not see each other
split-kept : (w : Walk) (n entry position : ℕ) (s : State) (xs : List Fixup) (b : Bool)
    → ((u : State) → walk w n (suc entry) (suc position) u ≡ and_then (fixups_of w n (suc entry) (suc position) u.fixups) (λ ys. fine (imaged w n (suc entry) (suc position) u ys)))
    → ((u : State) → walk w n (suc entry) position u ≡ and_then (fixups_of w n (suc entry) position u.fixups) (λ ys. fine (imaged w n (suc entry) position u ys)))
    → pick b (walk w n (suc entry) (suc position) (write w entry position s xs)) (walk w n (suc entry) position (passed_over s xs))
    ≡ and_then (fixups_of w n (suc entry) (position + pick b 1 0) xs) (λ ys. fine (record {
      values = image_walk w.start w.size w.work.values w.work.keeps n (suc entry) (position + pick b 1 0) (pick b (set s.values (w.start + position) (get_or w.work.values entry 0)) s.values);
      masks = image_walk w.start w.size w.work.masks w.work.keeps n (suc entry) (position + pick b 1 0) (pick b (set s.masks (w.start + position) (get_or w.work.masks entry 0)) s.masks);
      fixups = ys;
    }))
unfolding imaged write passed_over
split-kept w n entry position s xs true on off = rw add-one (on (write w entry position s xs))
split-kept w n entry position s xs false on off = rw add-zero (off (passed_over s xs))

split_at : (w : Walk) (n entry position : ℕ) (s : State) (o : Outcome (List Fixup))
    → ((u : State) → walk w n (suc entry) (suc position) u ≡ and_then (fixups_of w n (suc entry) (suc position) u.fixups) (λ ys. fine (imaged w n (suc entry) (suc position) u ys)))
    → ((u : State) → walk w n (suc entry) position u ≡ and_then (fixups_of w n (suc entry) position u.fixups) (λ ys. fine (imaged w n (suc entry) position u ys)))
    → (t : Bool) → ltb position w.size ≡ t
    → pick t (and_then o (λ xs. pick (eqb (get_or w.work.keeps entry 0) 1) (walk w n (suc entry) (suc position) (write w entry position s xs)) (walk w n (suc entry) position (passed_over s xs)))) (fine s)
    ≡ and_then (pick t (and_then o (λ xs. fixups_of w n (suc entry) (position + pick (eqb (get_or w.work.keeps entry 0) 1) 1 0) xs)) (fine s.fixups)) (λ ys. fine (imaged w (suc n) entry position s ys))
unfolding imaged image_walk
split_at w n entry position s (fine xs) on off true e = rw e (split-kept w n entry position s xs (eqb (get_or w.work.keeps entry 0) 1) on off)
split_at w n entry position s (refused m p) on off true e = refl
split_at w n entry position s o on off false e = rw e

pub split : (w : Walk) (n entry position : ℕ) (s : State)
    → walk w n entry position s ≡ and_then (fixups_of w n entry position s.fixups) (λ ys. fine (imaged w n entry position s ys))
unfolding walk fixups_walk imaged image_walk
split w zero entry position s = refl
split w (suc n) entry position s =
    split_at w n entry position s (fixups_at w.site entry position 0 w.fragments s.fixups)
    (λ u. split w n (suc entry) (suc position) u) (λ u. split w n (suc entry) position u) (ltb position w.size) refl
