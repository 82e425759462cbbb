-- The digits of a number have the number for their value, they are digits of its base, and there is at least one.
-- Assumes nothing.
use Prim.Native.Nat.{suc, zero, ℕ, ◌%◌, ◌*◌, ◌+◌, ◌-◌, ◌/◌, ◌<◌, ◌^◌, ◌≤◌}
use mathlib.Core.Path.{◌≡◌, ap, refl, ◌∙◌}
use mathlib.Core.Bool.{Bool, false, true}
use mathlib.Core.List.{List, [], map, ◌++◌, ◌∷◌}
use native.Mathlib.Nat.{div-add-mod', div-lt_iff_lt-mul, mod-lt, mul-le-mul_left}
use native.Mathlib.Omega.{arith}
use lib.ListN.{length, replicate, length-append}
use lib.Dec.{leb, ltb}
use borrow.Author.Tests.{le-leb, le-ltb, lt-leb, lt-ltb, ltb-false, ltb-true}
use Rattle.format.specs.Lists.{pick}
use Rattle.format.specs.Bytes.{is_digit, worth}
use Rattle.format.specs.Number.{horner}
use Rattle.manual.specs.Each.{Each}
use Rattle.manual.specs.Digits.{digit, digits_of, fewest}

-- a digit's letter is worth the digit
digit-worth : (d : ℕ) → d < 16 → worth (digit d) ≡ d
unfolding worth digit
digit-worth d h = go (ltb d 10) refl
  where
    go : (t : Bool) → ltb d 10 ≡ t → worth (digit d) ≡ d
    go true e =
        let i = ltb-true d 10 e in
        let a : ltb (48 + d) 48 ≡ false = le-ltb (48 + d) 48 (omega arith) in
        let b : leb (48 + d) 57 ≡ true = le-leb (48 + d) 57 (omega arith) in
        rw (e, a, b) (omega arith)
    go false e =
        let i = ltb-false d 10 e in
        let a : ltb (55 + d) 48 ≡ false = le-ltb (55 + d) 48 (omega arith) in
        let b : leb (55 + d) 57 ≡ false = lt-leb (55 + d) 57 (omega arith) in
        let c : ltb (55 + d) 65 ≡ false = le-ltb (55 + d) 65 (omega arith) in
        let k : leb (55 + d) 70 ≡ true = le-leb (55 + d) 70 (omega arith) in
        rw (e, a, b, c, k) (omega arith)

abbrev pub Digit : ℕ → ℕ → Type 0
Digit base b = is_digit base b ≡ true

digit-is-digit : (base d : ℕ) → base ≤ 16 → d < base → Digit base (digit d)
unfolding is_digit
digit-is-digit base d h i = rw (digit-worth d (omega arith)) (lt-ltb d base i)

pub each_append : {A : Type 0} (P : A → Type 0) (xs ys : List A) → Each P xs → Each P ys → Each P (xs ++ ys)
each_append P [] ys a b = b
each_append P (x ∷ xs) ys a b = (a.0, each_append P xs ys a.1 b)

pub horner-snoc : (base v d : ℕ) (xs : List ℕ) → horner base v (xs ++ d ∷ []) ≡ horner base v xs * base + d
unfolding horner
horner-snoc base v d [] = refl
horner-snoc base v d (x ∷ xs) = horner-snoc base (v * base + x) d xs

-- by cases on a test
pick-case : {A : Type 0} (P : A → Type 0) (t : Bool) {a b : A} → (t ≡ true → P a) → (t ≡ false → P b) → P (pick t a b)
pick-case P true x y = x refl
pick-case P false x y = y refl

map_snoc : (xs : List ℕ) (d : ℕ) → map worth (xs ++ d ∷ []) ≡ map worth xs ++ worth d ∷ []
map_snoc [] d = refl
map_snoc (x ∷ xs) d = ap (λ (l : List ℕ). worth x ∷ l) (map_snoc xs d)

-- a quotient by a base has one binary digit less
halved : (base n k : ℕ) → 2 ≤ base → n < 2 ^ suc k → n / base < 2 ^ k
halved base n k l h = (div-lt_iff_lt-mul {k = base} {x = n} {y = 2 ^ k} (omega arith)).1 (omega (arith, mul-le-mul_left (2 ^ k) l))

-- a last digit behind others adds its worth to their value times the base
last-digit : (base d n : ℕ) (front : List ℕ) → d < 16 → horner base 0 (map worth front) * base + d ≡ n → horner base 0 (map worth (front ++ digit d ∷ [])) ≡ n
last-digit base d n front h e = rw (map_snoc, horner-snoc, digit-worth d h) e

-- the digits' value is the number
fewest-value : (base k n : ℕ) → 2 ≤ base → base ≤ 16 → n < 2 ^ k → horner base 0 (map worth (fewest base k n)) ≡ n
unfolding fewest horner
fewest-value base zero n l h i = omega arith
fewest-value base (suc k) n l h i =
    pick-case (λ (ds : List ℕ). horner base 0 (map worth ds) ≡ n) (ltb n base)
    (λ e. let j = ltb-true n base e in rw (digit-worth n (omega arith)) (omega arith))
    (λ e.
    let j : n % base < base = mod-lt n (omega arith) in
    last-digit base _ n (fewest base k (n / base)) (omega arith) (rw (fewest-value base k (n / base) l h (halved base n k l i)) (omega (arith, div-add-mod' n base))))

-- they are digits
fewest-digits : (base k n : ℕ) → 2 ≤ base → base ≤ 16 → Each (Digit base) (fewest base k n)
unfolding fewest
fewest-digits base zero n l h = tt
fewest-digits base (suc k) n l h =
    pick-case (Each (Digit base)) (ltb n base)
    (λ e. (digit-is-digit base n h (ltb-true n base e), tt))
    (λ e. each_append (Digit base) (fewest base k (n / base)) _ (fewest-digits base k (n / base) l h) (digit-is-digit base (n % base) h (mod-lt n (omega arith)), tt))

-- and there is at least one
fewest-some : (base k n : ℕ) → 1 ≤ length (fewest base (suc k) n)
unfolding fewest
fewest-some base k n = pick-case (λ (ds : List ℕ). 1 ≤ length ds) (ltb n base) (λ e. omega arith) (λ e. simp length-append (omega arith))

-- zeros in front change neither
zeros-digits : (base k : ℕ) (ds : List ℕ) → 2 ≤ base → Each (Digit base) ds → Each (Digit base) (replicate k 48 ++ ds)
unfolding is_digit worth
zeros-digits base zero ds l r = r
zeros-digits base (suc k) ds l r = (lt-ltb 0 base (omega arith), zeros-digits base k ds l r)

zeros-value : (base k : ℕ) (ds : List ℕ) → horner base 0 (map worth (replicate k 48 ++ ds)) ≡ horner base 0 (map worth ds)
unfolding horner worth
zeros-value base zero ds = refl
zeros-value base (suc k) ds =
    let z : 0 * base + 0 ≡ 0 = omega arith in
    ap (λ (v : ℕ). horner base v (map worth (replicate k 48 ++ ds))) z ∙ zeros-value base k ds

module _ (base width n : ℕ) (l : 2 ≤ base) (h : base ≤ 16) where
  pub digits-are-digits : Each (Digit base) (digits_of base width n)
  unfolding digits_of
  digits-are-digits = zeros-digits base (width - length (fewest base 32 n)) (fewest base 32 n) l (fewest-digits base 32 n l h)

  pub some-digit : 1 ≤ length (digits_of base width n)
  unfolding digits_of
  some-digit = simp length-append (omega (arith, fewest-some base 31 n))

  pub digits_value : n < 2 ^ 32 → horner base 0 (map worth (digits_of base width n)) ≡ n
  unfolding digits_of
  digits_value i = zeros-value base (width - length (fewest base 32 n)) (fewest base 32 n) ∙ fewest-value base 32 n l h i
