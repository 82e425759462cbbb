-- The mode step: what a fragment does to its part of the work line, from its entry on, and the number that it makes.
-- Assumes nothing.
use Rattle.std.specs.Prelude.{ℕ, ◌-◌, Bool, List, ◌++◌, ◌∷◌, get_or, replicate, take}
use Rattle.format.specs.Lists.{over, pick}
use Rattle.format.specs.Number.{join}
use Rattle.format.specs.Mode.{Class, bit, class_of, joins, moves, size_of, touched_of}

-- a work line: values, masks, and 1 for each entry that is kept
pub record Work : Type 0 where
  pub values : List ℕ
  pub masks : List ℕ
  pub keeps : List ℕ

-- v, then n - 1 zeros
unfoldable pub fronted : ℕ → ℕ → List ℕ
fronted v n = v ∷ replicate (n - 1) 0

-- what a class does to a part of the work line that starts at the fragment's entry; the flag says that bit 8 of the mode is set
unfoldable pub values_by : Class → Bool → List ℕ → List ℕ
values_by c three vs = over (fronted (pick (moves c) (get_or vs (touched_of c three - 1) 0) 0) (touched_of c three)) vs

unfoldable pub masks_by : Class → Bool → List ℕ → List ℕ
masks_by c three ms = over (fronted (pick (moves c) 31 0) (touched_of c three)) ms

unfoldable pub keeps_by : Class → Bool → List ℕ → List ℕ
keeps_by c three ks = over (replicate (size_of c) 1 ++ replicate (touched_of c three - size_of c) 0) ks

-- the number that a class makes
unfoldable pub number_by_of : Bool → Class → List ℕ → ℕ
number_by_of big c vs = join big (take (joins c) vs)

-- the mode step
unfoldable pub step_values : ℕ → List ℕ → List ℕ
step_values m vs = values_by (class_of m) (bit 8 m) vs

unfoldable pub step_masks : ℕ → List ℕ → List ℕ
step_masks m ms = masks_by (class_of m) (bit 8 m) ms

unfoldable pub step_keeps_of : ℕ → List ℕ → List ℕ
step_keeps_of m ks = keeps_by (class_of m) (bit 8 m) ks

unfoldable pub step_number : Bool → ℕ → List ℕ → ℕ
step_number big m vs = number_by_of big (class_of m) vs
