-- Known bits: the ones in masks, how they move when a mask is written, and the column of the area rows that has them.
-- Assumes nothing.
use Prim.Native.Nat.{ℕ, zero, suc, ◌+◌, ◌-◌, ◌*◌, ◌≤◌, ◌<◌}
use mathlib.Core.Path.{◌≡◌, refl, sym, ap, ◌∙◌}
use mathlib.Core.Bool.{Bool, true, false}
use mathlib.Core.List.{List, [], ◌∷◌, ◌++◌}
use native.Mathlib.Nat.{add-zero}
use native.Mathlib.Omega.{arith}
use lib.Count.{ones_in, ones, ones-le}
use lib.ListN.{length, get_or, set, take, drop, replicate, length-append, take-append-drop}
use lib.Seq.{take-take, drop-drop, get_or-set_other}
use Rattle.format.specs.Lists.{flat}
use Rattle.format.specs.Tables.{Area, kept_size, total, offset}
use Rattle.format.specs.Placing.{extent}
use Rattle.format.specs.Known.{ones_of, known_bits}
use Rattle.format.specs.Rows.{area_numbers, area_table}
use Rattle.laws.specs.Rows.{from, given_by, area_at, areas_in}
use Rattle.laws.specs.Spared.{Spared}

-- ------------------------------------------------------------------ the ones in masks

-- writing a mask moves the sum by the difference of the ones
pub a-mask-moves-the-sum : (ms : List ℕ) (p m : ℕ) → p < length ms → ones_of (set ms p m) + ones (get_or ms p 0) ≡ ones_of ms + ones m
unfolding ones_of
a-mask-moves-the-sum [] p m h = absurd (omega arith)
a-mask-moves-the-sum (x ∷ ms) zero m h = omega arith
a-mask-moves-the-sum (x ∷ ms) (suc p) m h = omega (arith, a-mask-moves-the-sum ms p m (omega arith))

ones-append : (xs ys : List ℕ) → ones_of (xs ++ ys) ≡ ones_of xs + ones_of ys
unfolding ones_of
ones-append [] ys = omega arith
ones-append (x ∷ xs) ys = omega (arith, ones-append xs ys)

-- a byte has at most 8
ones-few : (ms : List ℕ) → ((i : ℕ) → get_or ms i 0 < 256) → (n : ℕ) → ones_of (take n ms) ≤ 8 * n
unfolding ones_of
ones-few [] b zero = omega arith
ones-few [] b (suc n) = omega arith
ones-few (x ∷ ms) b zero = omega arith
ones-few (x ∷ ms) b (suc n) = omega (arith, ones-le 8 x (b 0), ones-few ms (λ i. b (suc i)) n)

bytes_on : (k : ℕ) (ms : List ℕ) → ((i : ℕ) → get_or ms i 0 < 256) → (i : ℕ) → get_or (drop k ms) i 0 < 256
bytes_on zero ms b i = b i
bytes_on (suc k) [] b i = b i
bytes_on (suc k) (x ∷ ms) b i = bytes_on k ms (λ j. b (suc j)) i

-- so an area of bytes has at most 8 for each position
pub known-few : (areas : List Area) (i : ℕ) (ms : List ℕ) → ((j : ℕ) → get_or ms j 0 < 256) → known_bits areas i ms ≤ 8 * extent areas i
unfolding known_bits
known-few areas i ms b = ones-few (drop (offset areas i) ms) (bytes_on (offset areas i) ms b) (extent areas i)

ones-parts : (start size : ℕ) (ms : List ℕ) → ones_of ms ≡ ones_of (take start ms) + (ones_of (take size (drop start ms)) + ones_of (drop (start + size) ms))
ones-parts start size ms =
    let a : ones_of ms ≡ ones_of (take start ms) + ones_of (drop start ms) = ap ones_of (sym (take-append-drop start ms)) ∙ ones-append (take start ms) (drop start ms) in
    let b : ones_of (drop start ms) ≡ ones_of (take size (drop start ms)) + ones_of (drop size (drop start ms)) =
    ap ones_of (sym (take-append-drop size (drop start ms))) ∙ ones-append (take size (drop start ms)) (drop size (drop start ms)) in
    omega (arith, ap ones_of (drop-drop size start ms))

-- where only one area's masks change, its known bits move as the ones of all masks do
pub known-moves : (areas : List Area) (i : ℕ) (ms ms' : List ℕ) → Spared (offset areas i) (extent areas i) ms ms' → known_bits areas i ms' ≡ (known_bits areas i ms + ones_of ms') - ones_of ms
unfolding known_bits
known-moves areas i ms ms' w =
    let s = offset areas i in
    let z = extent areas i in
    omega (arith, ones-parts s z ms, ones-parts s z ms', ap ones_of w.before, ap ones_of w.behind)

-- ------------------------------------------------------------------ the column

drop-take : (k n : ℕ) (l : List ℕ) → drop k (take (k + n) l) ≡ take n (drop k l)
drop-take zero n l = let e : 0 + n ≡ n = omega arith in rw e
drop-take (suc k) n [] = let e : suc k + n ≡ suc (k + n) = omega arith in rw e (nil-take n)
  where
    nil-take : (n : ℕ) → ◌≡◌ {A = List ℕ} [] (take n [])
    nil-take zero = refl
    nil-take (suc n) = refl
drop-take (suc k) n (x ∷ l) = let e : suc k + n ≡ suc (k + n) = omega arith in rw e (drop-take k n l)

next_row : (i : ℕ) → 7 * suc i + 6 ≡ suc (suc (suc (suc (suc (suc (suc (7 * i + 6)))))))
next_row i = omega arith

-- the last number of an area's row is the sum of the ones over its masks
pub the-column-is-the-sum : (areas : List Area) (ms : List ℕ) (i : ℕ) → i < length areas → get_or (area_table areas ms) (7 * i + 6) 0 ≡ known_bits areas i ms
unfolding area_table area_numbers known_bits extent offset total
the-column-is-the-sum [] ms i h = absurd (omega arith)
the-column-is-the-sum (a ∷ rest) ms zero h = let e : kept_size a + 0 ≡ kept_size a = omega arith in rw e
the-column-is-the-sum (a ∷ rest) ms (suc i) h =
    rw (next_row i) (the-column-is-the-sum rest (drop (kept_size a) ms) i (omega arith)
    ∙ ap (λ (l : List ℕ). ones_of (take (total (take 1 (drop i rest))) l)) (drop-drop (total (take i rest)) (kept_size a) ms))

-- where only one area's masks change, only the last number of its row does
pub known-put : (areas : List Area) (ms ms' : List ℕ) (i : ℕ) → i < length areas → Spared (offset areas i) (extent areas i) ms ms'
    → set (area_table areas ms) (7 * i + 6) (known_bits areas i ms') ≡ area_table areas ms'
unfolding area_table area_numbers known_bits extent offset total
known-put [] ms ms' i h w = absurd (omega arith)
known-put (a ∷ rest) ms ms' zero h w =
    let e : kept_size a + 0 ≡ kept_size a = omega arith in
    let f : 0 + (kept_size a + 0) ≡ kept_size a = omega arith in
    let b : drop (kept_size a) ms' ≡ drop (kept_size a) ms = rw f at w.behind in
    rw (e, b)
known-put (a ∷ rest) ms ms' (suc i) h w =
    let k = kept_size a in
    let o = total (take i rest) in
    let z = total (take 1 (drop i rest)) in
    let front : take k ms' ≡ take k ms = sym (take-take k (k + o) ms' (omega arith)) ∙ (ap (λ (l : List ℕ). take k l) w.before ∙ take-take k (k + o) ms (omega arith)) in
    let inner : take o (drop k ms') ≡ take o (drop k ms) = sym (drop-take k o ms') ∙ (ap (λ (l : List ℕ). drop k l) w.before ∙ drop-take k o ms) in
    let g : k + o + z ≡ k + (o + z) = omega arith in
    let after : drop (o + z) (drop k ms') ≡ drop (o + z) (drop k ms) = drop-drop (o + z) k ms' ∙ (rw g at w.behind) ∙ sym (drop-drop (o + z) k ms) in
    let more = known-put rest (drop k ms) (drop k ms') i (omega arith) (record { before = inner; behind = after }) in
    rw (next_row i, front, ← drop-drop o k ms')
    (ap (λ (l : List ℕ). area_numbers (ones_of (take k ms)) a ++ l) more)

-- before the first pair nothing is known
zeros-few : (k n : ℕ) → ones_of (take k (replicate n 0)) ≡ 0
unfolding ones_of ones ones_in
zeros-few zero n = refl
zeros-few (suc k) zero = refl
zeros-few (suc k) (suc n) = omega (arith, zeros-few k n)

zeros-left : (k n : ℕ) → drop {A = ℕ} k (replicate n 0) ≡ replicate (n - k) 0
zeros-left zero n = let e : n - 0 ≡ n = omega arith in rw e
zeros-left (suc k) zero = let e : 0 - suc k ≡ 0 = omega arith in rw e
zeros-left (suc k) (suc n) = let e : suc n - suc k ≡ n - k = omega arith in rw e (zeros-left k n)

pub nothing_known : (areas : List Area) (n : ℕ) → area_table areas (replicate n 0) ≡ flat (area_numbers 0) areas
unfolding area_table flat
nothing_known [] n = refl
nothing_known (a ∷ rest) n = rw (zeros-few (kept_size a) n, zeros-left (kept_size a) n) (ap (λ (l : List ℕ). area_numbers 0 a ++ l) (nothing_known rest (n - kept_size a)))

pub table-length : (areas : List Area) (ms : List ℕ) → length (area_table areas ms) ≡ 7 * length areas
unfolding area_table area_numbers
table-length [] ms = refl
table-length (a ∷ rest) ms = omega (arith, table-length rest (drop (kept_size a) ms))

-- ------------------------------------------------------------------ an area does not see the column

from-same : {A : Type 0} (f g : ℕ → A) → ((j : ℕ) → f j ≡ g j) → (i n : ℕ) → from f i n ≡ from g i n
unfolding from
from-same f g e i zero = refl
from-same f g e i (suc n) = λ k. e i k ∷ from-same f g e (suc i) n k

module _ (rows : List ℕ) (i v : ℕ) where
  other : (j c : ℕ) → c < 6 → get_or (set rows (7 * i + 6) v) (7 * j + c) 0 ≡ get_or rows (7 * j + c) 0
  other j c h = get_or-set_other rows (7 * i + 6) (7 * j + c) v 0 (λ e. omega arith)

  first : (j : ℕ) → get_or (set rows (7 * i + 6) v) (7 * j) 0 ≡ get_or rows (7 * j) 0
  first j = get_or-set_other rows (7 * i + 6) (7 * j) v 0 (λ e. omega arith)

  same_area : (j : ℕ) → area_at (set rows (7 * i + 6) v) j ≡ area_at rows j
  unfolding area_at
  same_area j =
      let x : given_by (get_or (set rows (7 * i + 6) v) (7 * j + 4) 0) (get_or (set rows (7 * i + 6) v) (7 * j + 5) 0) ≡ given_by (get_or rows (7 * j + 4) 0) (get_or rows (7 * j + 5) 0) =
      rw (other j 4 (omega arith), other j 5 (omega arith)) in
      λ k. record { name = record { at = first j k; length = other j 1 (omega arith) k }; size = other j 2 (omega arith) k; flags = other j 3 (omega arith) k; addr = x k }

  pub same-areas : (n : ℕ) → areas_in (set rows (7 * i + 6) v) n ≡ areas_in rows n
  unfolding areas_in
  same-areas n = from-same (area_at (set rows (7 * i + 6) v)) (area_at rows) same_area 0 n
