-- How many bytes the readers of T and R lines use at least.
-- Assumes nothing.
use Prim.Native.Nat.{suc, zero, ℕ, ◌%◌, ◌*◌, ◌+◌, ◌-◌, ◌≤◌}
use mathlib.Core.Path.{◌≡◌, refl}
use mathlib.Core.Bool.{Bool, false, true}
use mathlib.Core.List.{List, ◌∷◌}
use native.Mathlib.Omega.{arith}
use lib.ListN.{drop, length}
use lib.Dec.{eqb, ltb}
use borrow.Author.Tests.{eqb-false, eqb-true}
use Rattle.format.specs.Lists.{pick, run, starts}
use Rattle.format.specs.Bytes.{is_blank, is_digit}
use Rattle.format.specs.Got.{Got, Reader, again, give, is, isnt, many, only, then, ◌>>=◌, ◌>>◌}
use Rattle.format.specs.Number.{behind, byte, bytes, digits, join, joined, more_bytes, next_byte, number, past, space, up_to, word}
use Rattle.format.specs.Header.{Form}
use Rattle.format.specs.Entries.{R, T, lead, spelled}
use Rattle.format.specs.Pairs.{Content, Fragment, Relocation, address_part, any_mode, area_part, content_from, content_line, fragment, index, listed, long_mode, mode_of, next_index, relocation_from, relocation_line, whole_content, zero_index}
use Rattle.laws.proofs.Within.{Holds, then-holds}

-- a reader that reads something uses so many bytes at least
abbrev pub Uses : {A : Type 0} → ℕ → Reader A → Type 0
Uses k m = (s : List ℕ) (at : ℕ) → Holds (λ a q. at + k ≤ q) (m s at)

pub holds-so : {A : Type 0} (P Q : A → ℕ → Type 0) (m : Got A) → Holds P m → ((a : A) (q : ℕ) → P a q → Q a q) → Holds Q m
holds-so P Q (is a q) h k = k a q h
holds-so P Q (isnt r p) h k = tt

picked : {A : Type 0} (P : A → ℕ → Type 0) (t : Bool) (m n : Got A) → (t ≡ true → Holds P m) → (t ≡ false → Holds P n) → Holds P (pick t m n)
picked P true m n h k = h refl
picked P false m n h k = k refl

bind-uses : {A B : Type 0} (j k : ℕ) (m : Reader A) (f : A → Reader B) → Uses j m → ((a : A) → Uses k (f a)) → Uses (j + k) (m >>= f)
bind-uses j k m f h g s at =
    then-holds (λ a q. at + j ≤ q) (λ b q. at + (j + k) ≤ q) (m s at) (λ a q. f a s q) (h s at) (λ a q w.
    holds-so (λ b x. q + k ≤ x) (λ b x. at + (j + k) ≤ x) (f a s q) (g a s q) (λ b x v. omega arith))

seq-uses : {A B : Type 0} (j k : ℕ) (m : Reader A) (n : Reader B) → Uses j m → Uses k n → Uses (j + k) (m >> n)
seq-uses j k m n h g s at =
    then-holds (λ a q. at + j ≤ q) (λ b q. at + (j + k) ≤ q) (m s at) (λ a q. n s q) (h s at) (λ a q w.
    holds-so (λ b x. q + k ≤ x) (λ b x. at + (j + k) ≤ x) (n s q) (g s q) (λ b x v. omega arith))

less-uses : {A : Type 0} (j k : ℕ) (m : Reader A) → k ≤ j → Uses j m → Uses k m
less-uses j k m h g s at = holds-so (λ a q. at + j ≤ q) (λ a q. at + k ≤ q) (m s at) (g s at) (λ a q v. omega arith)

give-uses : {A : Type 0} (a : A) → Uses 0 (give a)
give-uses a s at = omega arith

only-uses : {A : Type 0} (k : ℕ) (m : Reader A) (p : A → Bool) → Uses k m → Uses k (only m p)
only-uses k m p h s at =
    then-holds (λ a q. at + k ≤ q) (λ a q. at + k ≤ q) (m s at) (λ a q. pick (p a) (is a q) (isnt 4 at)) (h s at) (λ a q w.
    picked (λ a q. at + k ≤ q) (p a) (is a q) (isnt 4 at) (λ e. w) (λ e. tt))

-- ------------------------------------------------------------------ blanks, words, numbers, bytes

up-uses : {A : Type 0} (at next : ℕ) (a : A) → at ≤ next → Holds (λ u q. at + 1 ≤ q) (up_to at next a)
up-uses at next a h = picked (λ u q. at + 1 ≤ q) (eqb next at) (isnt 4 at) (is a next) (λ e. tt) (λ e. omega (arith, eqb-false next at e))

space-uses : Uses 1 space
unfolding space past
space-uses s at = up-uses at (at + length (run is_blank (drop at s))) tt (omega arith)

behind-from : (w s : List ℕ) (at : ℕ) → at ≤ behind w s at
unfolding behind
behind-from w s at = go (starts w (drop at s))
  where
    go : (t : Bool) → at ≤ pick t (at + length w) at
    go true = omega arith
    go false = omega arith

word-uses : (w : List ℕ) → Uses 1 (word w)
unfolding word
word-uses w s at = up-uses at (behind w s at) tt (behind-from w s at)

number-uses : (radix : ℕ) → Uses 1 (number radix)
unfolding number past
number-uses radix s at =
    let q = at + length (run (is_digit radix) (drop at s)) in
    let v = digits radix s at in
    picked (λ u q. at + 1 ≤ q) (eqb q at) (isnt 1 at) (pick (ltb v 4294967296) (is v q) (isnt 2 at)) (λ e. tt) (λ e.
    picked (λ u q. at + 1 ≤ q) (ltb v 4294967296) (is v q) (isnt 2 at) (λ l. omega (arith, eqb-false q at e)) (λ l. tt))

byte-uses : (radix : ℕ) → Uses 1 (byte radix)
unfolding byte
byte-uses radix s at =
    then-holds (λ v q. at + 1 ≤ q) (λ v q. at + 1 ≤ q) (number radix s at) (λ v q. pick (ltb v 256) (is v q) (isnt 3 at)) (number-uses radix s at) (λ v q w.
    picked (λ v q. at + 1 ≤ q) (ltb v 256) (is v q) (isnt 3 at) (λ l. w) (λ l. tt))

next-uses : (radix : ℕ) → Uses 2 (next_byte radix)
unfolding next_byte
next-uses radix = seq-uses 1 1 space (byte radix) space-uses (byte-uses radix)

more-uses : (radix n : ℕ) → Uses (n * 2) (more_bytes radix n)
unfolding more_bytes
more-uses radix zero = λ s at. omega arith
more-uses radix (suc n) =
    less-uses (2 + (n * 2 + 0)) (suc n * 2) (more_bytes radix (suc n)) (omega arith)
    (bind-uses 2 (n * 2 + 0) (next_byte radix) _ (next-uses radix) (λ b. bind-uses (n * 2) 0 (more_bytes radix n) _ (more-uses radix n) (λ bs. give-uses (b ∷ bs))))

joined-uses : (radix : ℕ) (big : Bool) (n : ℕ) → Uses (1 + (n * 2 + 0) + 0) (joined radix big n)
unfolding joined bytes
joined-uses radix big n =
    bind-uses (1 + (n * 2 + 0)) 0 (bytes radix n) _
    (bind-uses 1 (n * 2 + 0) (byte radix) _ (byte-uses radix) (λ b. bind-uses (n * 2) 0 (more_bytes radix n) _ (more-uses radix n) (λ bs. give-uses (b ∷ bs))))
    (λ bs. give-uses (join big bs))

lead-uses : (w : List ℕ) → Uses 2 (lead w)
unfolding lead
lead-uses w = seq-uses 1 1 (word w) space (word-uses w) space-uses

-- as many things as can be read, each of so many bytes
many-uses : {A : Type 0} (k : ℕ) (m : Reader A) → Uses k m → (n : ℕ) (s : List ℕ) (at : ℕ) → at + length (many n m s at).items * k ≤ (many n m s at).end
unfolding many
many-uses k m h zero s at = omega arith
many-uses {A} k m h (suc n) s at = go (m s at) (h s at) (λ q. many-uses k m h n s q)
  where
    go : (g : Got A) → Holds (λ a q. at + k ≤ q) g → ((q : ℕ) → q + length (many n m s q).items * k ≤ (many n m s q).end)
        → at + length (again g (λ q. many n m s q) at).items * k ≤ (again g (λ q. many n m s q) at).end
    go (is a q) w f = omega (arith, f q)
    go (isnt r p) w f = omega arith

-- ------------------------------------------------------------------ T lines

module _ (f : Form) (l : 2 ≤ f.address_length) where
  address-uses : Uses 5 (address_part f)
  unfolding address_part
  address-uses =
      let n = f.address_length - 1 in
      less-uses (2 + (1 + (n * 2 + 0) + 0)) 5 (address_part f) (omega arith)
      (seq-uses 2 (1 + (n * 2 + 0) + 0) (lead (spelled T)) (joined f.radix f.big n) (lead-uses (spelled T)) (joined-uses f.radix f.big n))

  pub content-uses : (s : List ℕ) (at : ℕ) → Holds (λ c q. at + 5 + length c.bytes * 2 ≤ q) (content_line f s at)
  unfolding content_line
  content-uses s at =
      then-holds (λ a q. at + 5 ≤ q) (λ c q. at + 5 + length c.bytes * 2 ≤ q) (address_part f s at) (λ a q. content_from f s a q) (address-uses s at) (λ a q w.
      omega (arith, many-uses 2 (listed f) (next-uses f.radix) (length s) s q))

  -- a T line that is used whole
  pub whole-uses : (s : List ℕ) → Holds (λ c q. 5 + length c.bytes * 2 ≤ length s) (whole_content f s)
  unfolding whole_content
  whole-uses s =
      then-holds (λ c q. 0 + 5 + length c.bytes * 2 ≤ q) (λ c q. 5 + length c.bytes * 2 ≤ length s) (content_line f s 0) _ (content-uses s 0) (λ c q w.
      picked (λ c q. 5 + length c.bytes * 2 ≤ length s) (eqb q (length s)) (is c q) (then (listed f s q) (λ b next. isnt 4 q)) (λ e. omega (arith, eqb-true q (length s) e)) (λ e. go q (listed f s q)))
    where
      go : (q : ℕ) (g : Got ℕ) → Holds (λ (c : Content) (x : ℕ). 5 + length c.bytes * 2 ≤ length s) (then g (λ b next. isnt 4 q))
      go q (is b x) = tt
      go q (isnt r p) = tt

-- ------------------------------------------------------------------ R lines

index-uses : (radix : ℕ) (big : Bool) → Uses 3 (index radix big)
unfolding index
index-uses radix big = joined-uses radix big 1

next-index-uses : (radix : ℕ) (big : Bool) → Uses 4 (next_index radix big)
unfolding next_index
next-index-uses radix big = seq-uses 1 3 space (index radix big) space-uses (index-uses radix big)

long-mode-uses : (radix b : ℕ) → Uses 2 (long_mode radix b)
unfolding long_mode
long-mode-uses radix b = bind-uses 2 0 (next_byte radix) (λ c. give ((b * 256 + c) % 4096)) (next-uses radix) (λ c. give-uses ((b * 256 + c) % 4096))

any-mode-uses : (radix : ℕ) → Uses 1 (any_mode radix)
unfolding any_mode
any-mode-uses radix s at =
    then-holds (λ b q. at + 1 ≤ q) (λ m q. at + 1 ≤ q) (byte radix s at) _ (byte-uses radix s at) (λ b q w.
    picked (λ m q. at + 1 ≤ q) (ltb b 240) (is b q) (long_mode radix b s q) (λ e. w) (λ e.
    holds-so (λ m x. q + 2 ≤ x) (λ m x. at + 1 ≤ x) (long_mode radix b s q) (long-mode-uses radix b s q) (λ m x v. omega arith)))

mode-uses : (radix : ℕ) → Uses 1 (mode_of radix)
unfolding mode_of
mode-uses radix = only-uses 1 (any_mode radix) (λ m. ltb m 2048) (any-mode-uses radix)

fragment-uses : (radix : ℕ) (big : Bool) → Uses 8 (fragment radix big)
unfolding fragment
fragment-uses radix big =
    seq-uses 1 7 space _ space-uses
    (bind-uses 1 6 (mode_of radix) _ (mode-uses radix) (λ m.
    bind-uses 2 4 (next_byte radix) _ (next-uses radix) (λ e.
    bind-uses 4 0 (next_index radix big) _ (next-index-uses radix big) (λ i. give-uses {A = Fragment} (record { mode = m; entry = e; index = i })))))

area-uses : (f : Form) → Uses 9 (area_part f)
unfolding area_part zero_index
area-uses f =
    seq-uses 2 7 (lead (spelled R)) _ (lead-uses (spelled R))
    (seq-uses 3 4 (zero_index f.radix f.big) (next_index f.radix f.big) (only-uses 3 (index f.radix f.big) (λ i. eqb i 0) (index-uses f.radix f.big)) (next-index-uses f.radix f.big))

pub relocation-uses : (f : Form) (s : List ℕ) (at : ℕ) → Holds (λ r q. at + 9 + length r.fragments * 8 ≤ q) (relocation_line f s at)
unfolding relocation_line past
relocation-uses f s at =
    then-holds (λ a q. at + 9 ≤ q) (λ r q. at + 9 + length r.fragments * 8 ≤ q) (area_part f s at) (λ a q. relocation_from f s a q) (area-uses f s at) (λ a q w.
    omega (arith, many-uses 8 (fragment f.radix f.big) (fragment-uses f.radix f.big) (length s) s q))
