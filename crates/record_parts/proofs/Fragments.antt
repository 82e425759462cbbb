-- The columns of a pair's fragments hold the fragments that their rows stand for.
-- Assumes nothing.
use Prim.Native.Nat.{ℕ, zero, suc, min, ◌+◌, ◌*◌, ◌≤◌, ◌<◌}
use mathlib.Core.Path.{◌≡◌, refl, ap, sym, ◌∙◌}
use mathlib.Core.List.{List, ◌∷◌, ◌++◌}
use native.Mathlib.Nat.{add-zero, zero-add}
use native.Mathlib.Omega.{arith}
use lib.ListN.{length, get_or, drop, get_or-append}
use lib.Seq.{sets, sets-eq}
use Rattle.laws.specs.Rows.{from, fragment}
use Rattle.sites.specs.Columns.{fragment_at, fragments_in}
use Rattle.record_rows.specs.RecordRows.{fragment_columns}
use Rattle.record_parts.specs.Parts.{fragment_from}
use Rattle.record_parts.specs.Columns.{cell, column, Three}

-- two lists made of equal elements
pub from-alike : {A : Type 0} (g h : ℕ → A) (a b n : ℕ) → ((j : ℕ) → j < n → g (a + j) ≡ h (b + j)) → from g a n ≡ from h b n
unfolding from
from-alike g h a b zero f = refl
from-alike g h a b (suc n) f =
    let here : g a ≡ h b = ap g (sym (add-zero a)) ∙ (f 0 (omega arith) ∙ ap h (add-zero b)) in
    let more : from g (suc a) n ≡ from h (suc b) n =
    from-alike g h (suc a) (suc b) n (λ j l. ap g (omega arith) ∙ (f (suc j) (omega arith) ∙ ap h (omega arith))) in
    λ k. here k ∷ more k

pub from-length : {A : Type 0} (g : ℕ → A) (a n : ℕ) → length (from g a n) ≡ n
unfolding from
from-length g a zero = refl
from-length g a (suc n) = ap suc (from-length g (suc a) n)

pub from_at : (g : ℕ → ℕ) (a n j : ℕ) → j < n → get_or (from g a n) j 0 ≡ g (a + j)
unfolding from
from_at g a zero j h = let z : ⊥ = omega arith in absurd z
from_at g a (suc n) zero h = ap g (sym (add-zero a))
from_at g a (suc n) (suc j) h = from_at g (suc a) n j (omega arith) ∙ ap g (omega arith)

-- a column that was stored
stored_at : (rows : List ℕ) (p c n : ℕ) (ys ys' : List ℕ) → ys' ≡ sets ys 0 (column rows p c n) → n ≤ length ys → (j : ℕ) → j < n → get_or ys' j 0 ≡ cell rows p c j
unfolding column
stored_at rows p c n ys ys' e l j h =
    let k : length (from (cell rows p c) 0 n) ≡ n = from-length (cell rows p c) 0 n in
    let whole : ys' ≡ from (cell rows p c) 0 n ++ drop (0 + length (from (cell rows p c) 0 n)) ys = e ∙ sets-eq (from (cell rows p c) 0 n) ys 0 (omega arith) in
    rw whole (get_or-append (from (cell rows p c) 0 n) (drop (0 + length (from (cell rows p c) 0 n)) ys) 0 j (omega arith)) ∙ (from_at (cell rows p c) 0 n j h ∙ ap (cell rows p c) (zero-add j))

at-cell : (rows : List ℕ) (k j c : ℕ) → cell rows (fragment_columns * k) c j ≡ get_or rows (fragment_columns * (k + j) + c) 0
unfolding cell
at-cell rows k j c = ap (λ (i : ℕ). get_or rows i 0) (omega arith)

pub columns-hold : (rows : List ℕ) (k n : ℕ) {ms es xs ms' es' xs' : List ℕ} → Three rows (fragment_columns * k) (min n 64) ms es xs ms' es' xs' → n ≤ 64 → length ms ≡ 64 → length es ≡ 64 → length xs ≡ 64
    → fragments_in ms' es' xs' n ≡ from (fragment_from rows) k n
unfolding fragments_in fragment_at fragment_from
columns-hold rows k n {ms} {es} {xs} {ms'} {es'} {xs'} t h lm le lx =
    let z : min n 64 ≡ n = omega arith in
    let t' : Three rows (fragment_columns * k) n ms es xs ms' es' xs' = rw z at t in
    from-alike _ _ 0 k n (λ j l.
    let at-0 : get_or ms' j 0 ≡ get_or rows (fragment_columns * (k + j)) 0 = stored_at rows _ 0 n ms ms' t'.modes (omega arith) j l ∙ (at-cell rows k j 0 ∙ ap (λ (i : ℕ). get_or rows i 0) (omega arith)) in
    let at_1 : get_or es' j 0 ≡ get_or rows (fragment_columns * (k + j) + 1) 0 = stored_at rows _ 1 n es es' t'.entries (omega arith) j l ∙ at-cell rows k j 1 in
    let at-2 : get_or xs' j 0 ≡ get_or rows (fragment_columns * (k + j) + 2) 0 = stored_at rows _ 2 n xs xs' t'.indexes (omega arith) j l ∙ at-cell rows k j 2 in
    let first : 0 + j ≡ j = omega arith in
    rw first (λ i. fragment (at-0 i) (at_1 i) (at-2 i)))
