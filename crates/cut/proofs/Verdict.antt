-- A text whose record ends ascend and lie within it is finished exactly if it ends directly behind its header or one of its records.
-- Assumes nothing.
use Prim.Native.Nat.{ℕ, ◌+◌, ◌-◌, ◌≤◌}
use mathlib.Core.Path.{◌≡◌, refl, sym, ◌∙◌}
use mathlib.Core.List.Memᴰ
use mathlib.Core.List.{List, [], ◌∷◌, ◌++◌, Memᴰ}
use mathlib.Core.Bool.{Bool, true, false}
use mathlib.Core.Logic.{◌⊎◌, inl, inr, ◌↔◌}
use native.Mathlib.Omega.{arith}
use lib.ListN.{length}
use lib.Dec.{eqb, leb}
use borrow.Author.Tests.{leb-true, eqb-true, eq-eqb}
use Rattle.format.specs.Lists.{pick}
use Rattle.format.specs.Records.{Taken, records, Parsed, ends, last_of, stop, finished, stopped, verdict}
use Rattle.cut.specs.Cut.{inside}
use Rattle.cut.proofs.Records.{Asc, ends_of}

unfoldable pub AllLe : ℕ → List ℕ → Type 0
AllLe n [] = Unit {0}
AllLe n (x ∷ xs) = (x ≤ n) × AllLe n xs

inside-step : {A : Type 0} (n : ℕ) (t : Taken A) (ts : List (Taken A)) (p : Bool) → leb t.end n ≡ p → AllLe n (ends_of (inside n ts)) → AllLe n (ends_of (inside n (t ∷ ts)))
unfolding inside AllLe
inside-step n t ts true e r = rw e (leb-true t.end n e, r)
inside-step n t ts false e r = rw e r

pub inside-le : {A : Type 0} (n : ℕ) (ts : List (Taken A)) → AllLe n (ends_of (inside n ts))
unfolding inside AllLe
inside-le n [] = tt
inside-le n (t ∷ ts) = inside-step n t ts (leb t.end n) refl (inside-le n ts)

pub all_append : (n : ℕ) (xs ys : List ℕ) → AllLe n xs → AllLe n ys → AllLe n (xs ++ ys)
unfolding AllLe
all_append n [] ys r s = s
all_append n (x ∷ xs) ys r s = (r.0, all_append n xs ys r.1 s)

last-le : (n a : ℕ) (xs : List ℕ) → a ≤ n → AllLe n xs → last_of a xs ≤ n
unfolding AllLe
last-le n a [] l r = l
last-le n a (x ∷ xs) l r = last-le n x xs r.0 r.1

last_mem : (a : ℕ) (xs : List ℕ) → Memᴰ (last_of a xs) (a ∷ xs)
last_mem a [] = Memᴰ.head refl
last_mem a (x ∷ xs) = Memᴰ.tail (last_mem x xs)

last-ge-first : (a : ℕ) (xs : List ℕ) → Asc a xs → a ≤ last_of a xs
last-ge-first a [] r = omega arith
last-ge-first a (x ∷ xs) r = omega (arith, r.0, last-ge-first x xs r.1)

last-ge-step : (n a : ℕ) (xs : List ℕ) → Asc a xs → (Memᴰ n xs → n ≤ last_of a xs) → (n ≡ a) ⊎ Memᴰ n xs → n ≤ last_of a xs
last-ge-step n a xs r ih (inl e) = omega (arith, last-ge-first a xs r)
last-ge-step n a xs r ih (inr k) = ih k

last-ge : (n a : ℕ) (xs : List ℕ) → Asc a xs → Memᴰ n (a ∷ xs) → n ≤ last_of a xs
last-ge n a [] r m = last-ge-step n a [] r (λ k. absurd (Memᴰ.not-nil k)) (Memᴰ.cases_cons m)
last-ge n a (x ∷ xs) r m = last-ge-step n a (x ∷ xs) r (last-ge n x xs r.1) (Memᴰ.cases_cons m)

is-finished : (t : Bool) (place : ℕ) → pick t finished (stopped place) ≡ finished → t ≡ true
is-finished true place h = refl
is-finished false place h = let z : ◌≡◌ {A = ℕ} 0 1 = cc in let y : ⊥ = omega arith in absurd y

-- a text whose record ends ascend and lie within it is finished exactly if it ends directly behind its header or one of its records
pub finished-iff : (text : List ℕ) (n : ℕ) (p : Parsed) → length text ≡ n → p.head ≤ n → Asc p.head (ends p.records) → AllLe n (ends p.records)
    → (verdict text p ≡ finished) ↔ Memᴰ n (p.head ∷ ends p.records)
unfolding verdict stop
finished-iff text n p len l asc all = (to, from)
  where
    to : verdict text p ≡ finished → Memᴰ n (p.head ∷ ends p.records)
    to h =
        let same : stop p ≡ length text = eqb-true (stop p) (length text) (is-finished (eqb (stop p) (length text)) (stop p) h) in
        Memᴰ.cast (sym len ∙ sym same) (last_mem p.head (ends p.records))

    from : Memᴰ n (p.head ∷ ends p.records) → verdict text p ≡ finished
    from m =
        let low = last-ge n p.head (ends p.records) asc m in
        let high = last-le n p.head (ends p.records) l all in
        rw (eq-eqb (stop p) (length text) (omega arith))
