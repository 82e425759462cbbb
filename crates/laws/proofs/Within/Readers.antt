-- No reader of a part of a line goes past the line's end: blanks, words, numbers, bytes, fields.
-- Assumes nothing.
use Prim.Native.Nat.{ℕ, zero, suc, ◌+◌, ◌≤◌, suc-le-suc}
use mathlib.Core.Path.{◌≡◌, refl, sym, subst}
use mathlib.Core.Bool.{Bool, true, false}
use mathlib.Core.List.{List, [], ◌∷◌}
use native.Mathlib.Omega.{arith}
use lib.ListN.{length, drop, length-drop}
use lib.Dec.{eqb, ltb, T}
use Rattle.format.specs.Lists.{pick, run, starts}
use Rattle.format.specs.Bytes.{is_blank, is_digit}
use Rattle.format.specs.Got.{Got, is, isnt, then, Reader, give, only, optional, or_none, ◌>>=◌, ◌>>◌}
use Rattle.format.specs.Number.{past, blanks, space, behind, word, digits, number, byte, next_byte, more_bytes, bytes, join, joined}
use Rattle.format.specs.Entries.{lead, field}

-- what holds of an answer that is one
abbrev pub Holds : {A : Type 0} → (A → ℕ → Type 0) → Got A → Type 0
Holds P (is a q) = P a q
Holds P (isnt r p) = Unit {0}

pub then-holds : {A B : Type 0} (P : A → ℕ → Type 0) (Q : B → ℕ → Type 0) (m : Got A) (f : A → ℕ → Got B)
    → Holds P m → ((a : A) (q : ℕ) → P a q → Holds Q (f a q)) → Holds Q (then m f)
then-holds P Q (is a q) f h k = k a q h
then-holds P Q (isnt r p) f h k = tt

abbrev pub Upto : {A : Type 0} → List ℕ → A → ℕ → Type 0
Upto s a q = q ≤ length s

-- a reader that starts inside the line ends inside it
abbrev pub Keeps : {A : Type 0} → Reader A → Type 0
Keeps m = (s : List ℕ) (at : ℕ) → at ≤ length s → Holds (Upto s) (m s at)

pub bind-keeps : {A B : Type 0} (m : Reader A) (f : A → Reader B) → Keeps m → ((a : A) → Keeps (f a)) → Keeps (m >>= f)
bind-keeps m f h k s at l = then-holds (Upto s) (Upto s) (m s at) (λ a q. f a s q) (h s at l) (λ a q w. k a s q w)

pub seq-keeps : {A B : Type 0} (m : Reader A) (n : Reader B) → Keeps m → Keeps n → Keeps (m >> n)
seq-keeps m n h k s at l = then-holds (Upto s) (Upto s) (m s at) (λ a q. n s q) (h s at l) (λ a q w. k s q w)

pub pick-holds : {A : Type 0} (P : A → ℕ → Type 0) (t : Bool) (m n : Got A) → Holds P m → Holds P n → Holds P (pick t m n)
pick-holds P true m n h k = h
pick-holds P false m n h k = k

pub only_keeps : {A : Type 0} (m : Reader A) (p : A → Bool) → Keeps m → Keeps (only m p)
only_keeps m p h s at l = then-holds (Upto s) (Upto s) (m s at) (λ a q. pick (p a) (is a q) (isnt 4 at)) (h s at l) (λ a q w. pick-holds (Upto s) (p a) (is a q) (isnt 4 at) w tt)

pub run-within : (p : ℕ → Bool) (xs : List ℕ) → length (run p xs) ≤ length xs
unfolding run
run-within p [] = omega arith
run-within p (x ∷ xs) = go (p x) (run-within p xs)
  where
    go : (t : Bool) → length (run p xs) ≤ length xs → length (pick t (x ∷ run p xs) []) ≤ length (x ∷ xs)
    go true h = omega arith
    go false h = omega arith

pub past-within : (p : ℕ → Bool) (s : List ℕ) (at : ℕ) → at ≤ length s → past p s at ≤ length s
unfolding past
past-within p s at h = omega (arith, run-within p (drop at s), length-drop at s)

starts-within : (w xs : List ℕ) → starts w xs ≡ true → length w ≤ length xs
unfolding starts
starts-within [] xs e = omega arith
starts-within (w ∷ ws) [] e = absurd (subst T (sym e) tt)
starts-within (w ∷ ws) (x ∷ xs) e = go (eqb w x) (starts-within ws xs) e
  where
    go : (t : Bool) → (starts ws xs ≡ true → length ws ≤ length xs) → pick t (starts ws xs) false ≡ true → length (w ∷ ws) ≤ length (x ∷ xs)
    go true f e = suc-le-suc (f e)
    go false f e = absurd (subst T (sym e) tt)

behind-within : (w s : List ℕ) (at : ℕ) → at ≤ length s → behind w s at ≤ length s
unfolding behind
behind-within w s at h = go (starts w (drop at s)) refl
  where
    go : (t : Bool) → starts w (drop at s) ≡ t → pick t (at + length w) at ≤ length s
    go true e = omega (arith, starts-within w (drop at s) e, length-drop at s)
    go false e = h

pub blanks-keeps : Keeps blanks
unfolding blanks
blanks-keeps s at h = past-within is_blank s at h

pub space-keeps : Keeps space
unfolding space
space-keeps s at h = pick-holds (Upto s) (eqb (past is_blank s at) at) (isnt 4 at) (is tt (past is_blank s at)) tt (past-within is_blank s at h)

pub word_keeps : (w : List ℕ) → Keeps (word w)
unfolding word
word_keeps w s at h = pick-holds (Upto s) (eqb (behind w s at) at) (isnt 4 at) (is tt (behind w s at)) tt (behind-within w s at h)

pub number-keeps : (radix : ℕ) → Keeps (number radix)
unfolding number
number-keeps radix s at h =
    let p = past-within (is_digit radix) s at h in
    pick-holds (Upto s) (eqb (past (is_digit radix) s at) at) (isnt 1 at) _ tt
    (pick-holds (Upto s) (ltb (digits radix s at) 4294967296) (is (digits radix s at) (past (is_digit radix) s at)) (isnt 2 at) p tt)

pub byte-keeps : (radix : ℕ) → Keeps (byte radix)
unfolding byte
byte-keeps radix s at h =
    then-holds (Upto s) (Upto s) (number radix s at) (λ v q. pick (ltb v 256) (is v q) (isnt 3 at)) (number-keeps radix s at h)
    (λ v q w. pick-holds (Upto s) (ltb v 256) (is v q) (isnt 3 at) w tt)

pub next-keeps : (radix : ℕ) → Keeps (next_byte radix)
unfolding next_byte
next-keeps radix s at h = then-holds (Upto s) (Upto s) (space s at) (λ u q. byte radix s q) (space-keeps s at h) (λ u q w. byte-keeps radix s q w)

give-keeps : {A : Type 0} (a : A) → Keeps (give a)
give-keeps a s at h = h

more-keeps : (radix n : ℕ) → Keeps (more_bytes radix n)
unfolding more_bytes
more-keeps radix zero = λ s at h. h
more-keeps radix (suc n) = bind-keeps (next_byte radix) _ (next-keeps radix) (λ b. bind-keeps (more_bytes radix n) _ (more-keeps radix n) (λ bs. give-keeps (b ∷ bs)))

pub joined_keeps : (radix : ℕ) (big : Bool) (n : ℕ) → Keeps (joined radix big n)
unfolding joined bytes
joined_keeps radix big n =
    bind-keeps (bytes radix n) _ (bind-keeps (byte radix) _ (byte-keeps radix) (λ b. bind-keeps (more_bytes radix n) _ (more-keeps radix n) (λ bs. give-keeps (b ∷ bs))))
    (λ bs. give-keeps (join big bs))

pub lead-keeps : (w : List ℕ) → Keeps (lead w)
unfolding lead
lead-keeps w = seq-keeps (word w) space (word_keeps w) space-keeps

pub field-keeps : (w : List ℕ) (radix : ℕ) → Keeps (field w radix)
unfolding field
field-keeps w radix = seq-keeps space _ space-keeps (seq-keeps (lead w) (number radix) (lead-keeps w) (number-keeps radix))

pub optional-keeps : {A : Type 0} (m : Reader A) → Keeps m → Keeps (optional m)
unfolding optional
optional-keeps {A} m h s at l = go (m s at) (h s at l)
  where
    go : (g : Got A) → Holds (Upto s) g → Holds (Upto s) (or_none g at)
    go (is a q) w = w
    go (isnt r p) w = l
