-- Laws of the small words: equal numbers, lists for each element, rows with indexes, lists by rank.
-- Assumes nothing.
use Prim.Native.Nat.{suc, ℕ, ◌+◌}
use mathlib.Core.Path.{◌≡◌, refl, ap, ◌∙◌}
use mathlib.Core.Bool.{Bool, true, false}
use mathlib.Core.List.{List, [], ◌++◌, ◌∷◌, Memᴰ}
use lib.Dec.{eqb, eqb_refl, eqb→eq, T}
use native.Mathlib.Omega.{arith}
use Rattle.format.specs.Lists.{pick}
use Rattle.difference.specs.Module.{At, numbered, passing, same_numbers}
use Rattle.difference.specs.Changes.{each}

-- a list that begins is not empty
pub begun : {A C : Type 0} {x : A} {xs : List A} → x ∷ xs ≡ [] → C
begun h = let z : ◌≡◌ {A = ℕ} 0 1 = cc in let y : ⊥ = omega arith in absurd y

pub of-true : {b : Bool} → b ≡ true → T b
of-true h = rw h tt

pub eqb-true : (m n : ℕ) → eqb m n ≡ true → m ≡ n
eqb-true m n h = eqb→eq m n (of-true h)

is_true : (b : Bool) → T b → b ≡ true
is_true true t = refl
is_true false t = absurd t

pub eqb_same : (n : ℕ) → eqb n n ≡ true
eqb_same n = is_true (eqb n n) (eqb_refl n)

-- a test that was passed, or failed
pub pick_true : (b c : Bool) → pick b c false ≡ true → (b ≡ true) × (c ≡ true)
pick_true true c h = (refl, h)
pick_true false c h = let z : ◌≡◌ {A = ℕ} 0 1 = cc in let y : ⊥ = omega arith in absurd y

pub pick-none : {A : Type 0} (b : Bool) (x : A) → pick b [] (x ∷ []) ≡ [] → b ≡ true
pick-none true x h = refl
pick-none false x h = begun h

pub same_refl : (xs : List ℕ) → same_numbers xs xs ≡ true
unfolding same_numbers
same_refl [] = refl
same_refl (x ∷ xs) = rw (eqb_same x, same_refl xs)

pub same-eq : (xs ys : List ℕ) → same_numbers xs ys ≡ true → xs ≡ ys
unfolding same_numbers
same-eq [] [] h = refl
same-eq [] (y ∷ ys) h = let z : ◌≡◌ {A = ℕ} 0 1 = cc in let y : ⊥ = omega arith in absurd y
same-eq (x ∷ xs) [] h = let z : ◌≡◌ {A = ℕ} 0 1 = cc in let y : ⊥ = omega arith in absurd y
same-eq (x ∷ xs) (y ∷ ys) h =
    let k = pick_true (eqb x y) (same_numbers xs ys) h in
    let e = eqb-true x y k.0 in
    let f = same-eq xs ys k.1 in
    rw (e, f)

pub append-none : {A : Type 0} (xs ys : List A) → xs ++ ys ≡ [] → (xs ≡ []) × (ys ≡ [])
append-none [] ys h = (refl, h)
append-none (x ∷ xs) ys h = begun h

-- each element gives an empty list exactly if the whole is empty
pub each_none : {A B : Type 0} (f : A → List B) (xs : List A) → each f xs ≡ [] → {x : A} → Memᴰ x xs → f x ≡ []
unfolding each
each_none {A = A} {B = B} f [] h x4 = elim x4 [ ]
each_none f (y ∷ ys) h (Memᴰ.head e) = ap f e ∙ (append-none (f y) (each f ys) h).0
each_none f (y ∷ ys) h (Memᴰ.tail m) = each_none f ys (append-none (f y) (each f ys) h).1 m

pub none_each : {A B : Type 0} (f : A → List B) (xs : List A) → ((x : A) → Memᴰ x xs → f x ≡ []) → each f xs ≡ []
unfolding each
none_each f [] h = refl
none_each f (y ∷ ys) h =
    let p : f y ≡ [] = h y (Memᴰ.head refl) in
    let q : each f ys ≡ [] = none_each f ys (λ x m. h x (Memᴰ.tail m)) in
    rw (p, q)

-- what passes is there and passes
pub record Passed {A : Type 0} (p : A → Bool) (xs : List A) (x : A) : Type 0 where
  pub there : Memᴰ x xs
  pub passes : p x ≡ true

passed-at : {A : Type 0} (p : A → Bool) (y : A) (ys : List A) (x : A) (b : Bool) → p y ≡ b → Memᴰ x (pick b (y ∷ passing p ys) (passing p ys))
    → (Memᴰ x (passing p ys) → Passed p ys x) → Passed p (y ∷ ys) x
passed-at p y ys x true e (Memᴰ.head h) k = record { there = Memᴰ.head h; passes = ap p h ∙ e }
passed-at p y ys x true e (Memᴰ.tail m) k = let r = k m in record { there = Memᴰ.tail r.there; passes = r.passes }
passed-at p y ys x false e m k = let r = k m in record { there = Memᴰ.tail r.there; passes = r.passes }

pub passing-passed : {A : Type 0} (p : A → Bool) (xs : List A) (x : A) → Memᴰ x (passing p xs) → Passed p xs x
unfolding passing
passing-passed p [] x m = elim m [ ]
passing-passed p (y ∷ ys) x m = passed-at p y ys x (p y) refl m (λ k. passing-passed p ys x k)

passing-tail : {A : Type 0} (p : A → Bool) (y : A) (ys : List A) (x : A) (b : Bool) → Memᴰ x (passing p ys) → Memᴰ x (pick b (y ∷ passing p ys) (passing p ys))
passing-tail p y ys x true m = Memᴰ.tail m
passing-tail p y ys x false m = m

passing-head : {A : Type 0} (p : A → Bool) (y : A) (ys : List A) (x : A) (b : Bool) → p y ≡ b → p x ≡ true → x ≡ y → Memᴰ x (pick b (y ∷ passing p ys) (passing p ys))
passing-head p y ys x true e h q = Memᴰ.head q
passing-head p y ys x false e h q = let z : ◌≡◌ {A = ℕ} 0 1 = cc in let y : ⊥ = omega arith in absurd y

pub passed-passing : {A : Type 0} (p : A → Bool) (xs : List A) (x : A) → Memᴰ x xs → p x ≡ true → Memᴰ x (passing p xs)
unfolding passing
passed-passing {A = A} p [] x x4 h = elim x4 [ ]
passed-passing p (y ∷ ys) x (Memᴰ.head e) h = passing-head p y ys x (p y) refl h e
passed-passing p (y ∷ ys) x (Memᴰ.tail m) h = passing-tail p y ys x (p y) (passed-passing p ys x m h)

-- each row has an index, and each numbered row is a row
pub record Indexed {A : Type 0} (i : ℕ) (xs : List A) (x : A) : Type 0 where
  pub index : ℕ
  pub there : Memᴰ (record { index = index; it = x }) (numbered i xs)

pub indexed : {A : Type 0} (i : ℕ) (xs : List A) (x : A) → Memᴰ x xs → Indexed i xs x
unfolding numbered
indexed {A = A} i [] x x3 = elim x3 [ ]
indexed i (y ∷ ys) x (Memᴰ.head e) = record { index = i; there = Memᴰ.head (ap (λ (z : _). record { index = i; it = z }) e) }
indexed i (y ∷ ys) x (Memᴰ.tail m) = let r = indexed (suc i) ys x m in record { index = r.index; there = Memᴰ.tail r.there }

pub unnumbered : {A : Type 0} (i : ℕ) (xs : List A) (x : At A) → Memᴰ x (numbered i xs) → Memᴰ x.it xs
unfolding numbered
unnumbered i [] x m = elim m [ ]
unnumbered i (y ∷ ys) x (Memᴰ.head e) = Memᴰ.head (ap (λ (z : At _). z.it) e)
unnumbered i (y ∷ ys) x (Memᴰ.tail m) = Memᴰ.tail (unnumbered (suc i) ys x m)
