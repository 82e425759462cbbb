-- Every small reader answers a place inside its line, at or behind where it began; and where it comes to a halt, a reason from 1 to 4.
-- Assumes nothing.
use Prim.Native.Nat.{ℕ, zero, suc, ◌+◌, ◌-◌, ◌≤◌}
use mathlib.Core.Path.{◌≡◌, refl}
use mathlib.Core.Bool.{Bool, true, false}
use mathlib.Core.List.{List, [], ◌∷◌}
use native.Mathlib.Omega.{arith}
use lib.ListN.{length, drop, length-drop}
use lib.Dec.{eqb, ltb}
use Rattle.format.specs.Lists.{pick, starts}
use Rattle.format.specs.Bytes.{is_blank, is_name_byte, is_digit}
use Rattle.format.specs.Got.{Got, is, isnt, then, Reader, give, only, ◌>>=◌, ◌>>◌}
use Rattle.format.specs.Number.{past, blanks, space, behind, word, name, digits, number, byte, next_byte, more_bytes, bytes, join, joined}
use Rattle.format.specs.Entries.{lead, titled, field}
use Rattle.laws.proofs.Within.{past-within}

-- a reason and its place
pub record Halts (s : List ℕ) (at r p : ℕ) : Type 0 where
  pub least : 1 ≤ r
  pub most : r ≤ 4
  pub from : at ≤ p
  pub inside : p ≤ length s

abbrev pub Span : {A : Type 0} → List ℕ → ℕ → Got A → Type 0
Span s at (is a q) = (at ≤ q) × (q ≤ length s)
Span s at (isnt r p) = Halts s at r p

abbrev pub Sound : {A : Type 0} → Reader A → Type 0
Sound m = (s : List ℕ) (at : ℕ) → at ≤ length s → Span s at (m s at)

module _ (s : List ℕ) (at : ℕ) where
  pub lower : {A : Type 0} (q : ℕ) (g : Got A) → at ≤ q → Span s q g → Span s at g
  lower q (is a n) l h = (omega (arith, h.0), h.1)
  lower q (isnt r p) l h = record { least = h.least; most = h.most; from = omega (arith, h.from); inside = h.inside }

  pub then-spans : {A B : Type 0} (m : Got A) (f : A → ℕ → Got B) → Span s at m → ((a : A) (q : ℕ) → at ≤ q → q ≤ length s → Span s at (f a q)) → Span s at (then m f)
  then-spans (is a q) f h k = k a q h.0 h.1
  then-spans (isnt r p) f h k = h

  pub pick-spans : {A : Type 0} (t : Bool) (m n : Got A) → Span s at m → Span s at n → Span s at (pick t m n)
  pick-spans true m n h k = h
  pick-spans false m n h k = k

  pub halts : (r : ℕ) → 1 ≤ r → r ≤ 4 → at ≤ length s → Halts s at r at
  halts r a b h = record { least = a; most = b; from = omega arith; inside = h }

pub bind-sound : {A B : Type 0} (m : Reader A) (f : A → Reader B) → Sound m → ((a : A) → Sound (f a)) → Sound (m >>= f)
bind-sound m f h k s at l = then-spans s at (m s at) (λ a q. f a s q) (h s at l) (λ a q g w. lower s at q (f a s q) g (k a s q w))

pub seq-sound : {A B : Type 0} (m : Reader A) (n : Reader B) → Sound m → Sound n → Sound (m >> n)
seq-sound m n h k s at l = then-spans s at (m s at) (λ a q. n s q) (h s at l) (λ a q g w. lower s at q (n s q) g (k s q w))

pub give-sound : {A : Type 0} (a : A) → Sound (give a)
give-sound a s at h = (omega arith, h)

pub only-sound : {A : Type 0} (m : Reader A) (p : A → Bool) → Sound m → Sound (only m p)
only-sound m p h s at l =
    then-spans s at (m s at) (λ a q. pick (p a) (is a q) (isnt 4 at)) (h s at l)
    (λ a q g w. pick-spans s at (p a) (is a q) (isnt 4 at) (g, w) (halts s at 4 (omega arith) (omega arith) l))

pub past-from : (p : ℕ → Bool) (s : List ℕ) (at : ℕ) → at ≤ past p s at
unfolding past
past-from p s at = omega arith

-- what up_to answers
up-spans : {A : Type 0} (s : List ℕ) (at next : ℕ) (a : A) → at ≤ length s → at ≤ next → next ≤ length s → Span s at (pick (eqb next at) (isnt 4 at) (is a next))
up-spans s at next a h l m = pick-spans s at (eqb next at) (isnt 4 at) (is a next) (halts s at 4 (omega arith) (omega arith) h) (l, m)

starts-in : (w xs : List ℕ) → starts w xs ≡ true → length w ≤ length xs
unfolding starts
starts-in [] xs e = omega arith
starts-in (w ∷ ws) [] e = let z : ◌≡◌ {A = ℕ} 0 1 = cc in let y : ⊥ = omega arith in absurd y
starts-in (w ∷ ws) (x ∷ xs) e = go (eqb w x) (starts-in ws xs) e
  where
    go : (t : Bool) → (starts ws xs ≡ true → length ws ≤ length xs) → pick t (starts ws xs) false ≡ true → length (w ∷ ws) ≤ length (x ∷ xs)
    go true f e = omega (arith, f e)
    go false f e = let z : ◌≡◌ {A = ℕ} 0 1 = cc in let y : ⊥ = omega arith in absurd y

behind-span : (w s : List ℕ) (at : ℕ) → at ≤ length s → (at ≤ behind w s at) × (behind w s at ≤ length s)
unfolding behind
behind-span w s at h = go (starts w (drop at s)) refl
  where
    go : (t : Bool) → starts w (drop at s) ≡ t → (at ≤ pick t (at + length w) at) × (pick t (at + length w) at ≤ length s)
    go true e = (omega arith, omega (arith, starts-in w (drop at s) e, length-drop at s))
    go false e = (omega arith, h)

pub blanks-sound : Sound blanks
unfolding blanks
blanks-sound s at h = (past-from is_blank s at, past-within is_blank s at h)

pub space-sound : Sound space
unfolding space
space-sound s at h = up-spans s at (past is_blank s at) tt h (past-from is_blank s at) (past-within is_blank s at h)

pub word_sound : (w : List ℕ) → Sound (word w)
unfolding word
word_sound w s at h = let k = behind-span w s at h in up-spans s at (behind w s at) tt h k.0 k.1

pub name-sound : Sound name
unfolding name
name-sound s at h = up-spans s at (past is_name_byte s at) (record { at = at; length = past is_name_byte s at - at }) h (past-from is_name_byte s at) (past-within is_name_byte s at h)

pub number-sound : (radix : ℕ) → Sound (number radix)
unfolding number
number-sound radix s at h =
    let p = past-within (is_digit radix) s at h in
    pick-spans s at (eqb (past (is_digit radix) s at) at) (isnt 1 at) _ (halts s at 1 (omega arith) (omega arith) h)
    (pick-spans s at (ltb (digits radix s at) 4294967296) (is (digits radix s at) (past (is_digit radix) s at)) (isnt 2 at) (past-from (is_digit radix) s at, p) (halts s at 2 (omega arith) (omega arith) h))

pub byte-sound : (radix : ℕ) → Sound (byte radix)
unfolding byte
byte-sound radix s at h =
    then-spans s at (number radix s at) (λ v q. pick (ltb v 256) (is v q) (isnt 3 at)) (number-sound radix s at h)
    (λ v q g w. pick-spans s at (ltb v 256) (is v q) (isnt 3 at) (g, w) (halts s at 3 (omega arith) (omega arith) h))

pub next-sound : (radix : ℕ) → Sound (next_byte radix)
unfolding next_byte
next-sound radix = seq-sound space (byte radix) space-sound (byte-sound radix)

more-sound : (radix n : ℕ) → Sound (more_bytes radix n)
unfolding more_bytes
more-sound radix zero = give-sound {A = List ℕ} []
more-sound radix (suc n) = bind-sound (next_byte radix) _ (next-sound radix) (λ b. bind-sound (more_bytes radix n) _ (more-sound radix n) (λ bs. give-sound (b ∷ bs)))

pub joined-sound : (radix : ℕ) (big : Bool) (n : ℕ) → Sound (joined radix big n)
unfolding joined bytes
joined-sound radix big n =
    bind-sound (bytes radix n) _ (bind-sound (byte radix) _ (byte-sound radix) (λ b. bind-sound (more_bytes radix n) _ (more-sound radix n) (λ bs. give-sound (b ∷ bs))))
    (λ bs. give-sound (join big bs))

pub lead-sound : (w : List ℕ) → Sound (lead w)
unfolding lead
lead-sound w = seq-sound (word w) space (word_sound w) space-sound

pub field-sound : (w : List ℕ) (radix : ℕ) → Sound (field w radix)
unfolding field
field-sound w radix = seq-sound space _ space-sound (seq-sound (lead w) (number radix) (lead-sound w) (number-sound radix))

pub titled-sound : (w : List ℕ) → Sound (titled w)
unfolding titled
titled-sound w = seq-sound (lead w) name (lead-sound w) name-sound
