-- Every position is of one kind, and as many are unwritten as the report counts.
-- Assumes nothing.
use Prim.Native.Nat.{ℕ, zero, suc, ◌+◌, ◌≤◌}
use mathlib.Core.Path.{◌≡◌, refl, ap, ◌∙◌}
use mathlib.Core.Bool.{Bool, true, false}
use mathlib.Core.List.{List, ◌∷◌, ◌++◌}
use native.Mathlib.Omega.{arith}
use lib.Dec.{eqb}
use lib.ListN.{length, get_or, take, drop, length-append}
use lib.Seq.{drop-cons, take-append_seam}
use Rattle.format.specs.Lists.{over, pick}
use Rattle.covered.specs.Covered.{unwritten_in}
use Rattle.kinds.specs.Kinds.{kind_count, kind_of, kinds_in}

-- ------------------------------------------------------------------ one kind each

one_of : (a b c : Bool) → let k : ℕ = pick a 0 (pick b 1 (pick c 3 2)) in pick (eqb k 0) 1 0 + pick (eqb k 1) 1 0 + pick (eqb k 2) 1 0 + pick (eqb k 3) 1 0 ≡ 1
one_of true b c = refl
one_of false true c = refl
one_of false false true = refl
one_of false false false = refl

one-kind : (mask mark : ℕ) → pick (eqb (kind_of mask mark) 0) 1 0 + pick (eqb (kind_of mask mark) 1) 1 0 + pick (eqb (kind_of mask mark) 2) 1 0 + pick (eqb (kind_of mask mark) 3) 1 0 ≡ 1
unfolding kind_of
one-kind mask mark = one_of (eqb mark 0) (eqb mask 255) (eqb mask 0)

all_from : (masks map : List ℕ) (i n : ℕ) → kind_count masks map 0 i n + kind_count masks map 1 i n + kind_count masks map 2 i n + kind_count masks map 3 i n ≡ n
unfolding kind_count
all_from masks map i zero = refl
all_from masks map i (suc n) = omega (arith, one-kind (get_or masks i 0) (get_or map i 0), all_from masks map (suc i) n)

-- the four counts make up all positions
pub each-position-is-of-one-kind : (masks map : List ℕ) (n : ℕ) → (kinds_in masks map n).unwritten + (kinds_in masks map n).known + (kinds_in masks map n).partly + (kinds_in masks map n).relocated ≡ n
unfolding kinds_in
each-position-is-of-one-kind masks map n = all_from masks map 0 n

-- ------------------------------------------------------------------ unwritten

unwritten-by : (b c d : Bool) → ◌≡◌ {A = ℕ} (pick (eqb (pick b 0 (pick c 1 (pick d 3 2))) 0) 1 0) (pick b 1 0)
unwritten-by true c d = refl
unwritten-by false true d = refl
unwritten-by false false true = refl
unwritten-by false false false = refl

unwritten-one : (mask mark : ℕ) → ◌≡◌ {A = ℕ} (pick (eqb (kind_of mask mark) 0) 1 0) (pick (eqb mark 0) 1 0)
unfolding kind_of
unwritten-one mask mark = unwritten-by (eqb mark 0) (eqb mask 255) (eqb mask 0)

unwritten-from : (masks map : List ℕ) (i n : ℕ) → i + n ≤ length map → kind_count masks map 0 i n ≡ unwritten_in (take n (drop i map))
unfolding kind_count unwritten_in
unwritten-from masks map i zero h = refl
unwritten-from masks map i (suc n) h =
    let e : unwritten_in (take (suc n) (drop i map)) ≡ pick (eqb (get_or map i 0) 0) 1 0 + unwritten_in (take n (drop (suc i) map)) = ap (λ (l : List ℕ). unwritten_in (take (suc n) l)) (drop-cons map i 0 (omega arith)) in
    omega (arith, e, unwritten-one (get_or masks i 0) (get_or map i 0), unwritten-from masks map (suc i) n (omega arith))

-- over a lent map that `coverage::cover` filled: as many as it answers
pub as-many-as-the-report-counts : (masks map old : List ℕ) → (kinds_in masks (over map old) (length map)).unwritten ≡ unwritten_in map
unfolding kinds_in over
as-many-as-the-report-counts masks map old =
    unwritten-from masks (map ++ drop (length map) old) 0 (length map) (omega (arith, length-append map (drop (length map) old)))
    ∙ ap unwritten_in (take-append_seam map (drop (length map) old))
