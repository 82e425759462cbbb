-- Words and numbers with one space between them, as the readers of lines take them.
-- Assumes nothing.
use Prim.Native.Nat.{ℕ, ◌+◌, ◌<◌, ◌^◌, ◌≤◌}
use mathlib.Core.Path.{◌≡◌, ap, refl, sym, ◌∙◌}
use mathlib.Core.Bool.{Bool, false, false≢true, not, true, ◌||◌}
use mathlib.Core.List.{List, [], append_assoc, append-nil, ◌++◌, ◌∷◌}
use native.Mathlib.Omega.{arith}
use lib.ListN.{length}
use lib.Dec.{eqb}
use borrow.Author.Tests.{ne_eqb}
use Rattle.format.specs.Bytes.{is_blank, is_cr_or_lf, is_digit, is_name_byte, is_white, worth}
use Rattle.format.specs.Entries.{field, lead, titled}
use Rattle.manual.specs.Each.{Passes}
use Rattle.manual.specs.Specifier.{D, Q, Radix, X, base}
use Rattle.manual.specs.Digits.{digits_of}
use Rattle.manual.specs.Takes.{Takes}
use Rattle.manual.specs.Words.{spaced}
use Rattle.manual.specs.WrittenEntries.{IsName}
use Rattle.manual.proofs.Digits.{digits-are-digits, some-digit}
use Rattle.manual.proofs.Takes.{Stops, stops-cons, stops-never, takes-name, takes-next, takes_same, takes-space, takes-word}
use Rattle.manual.proofs.Numbers.{a-written-number-reads-back, high-base, low-base}

-- a space is no digit
pub space-no-digit : (r : Radix) → is_digit (base r) 32 ≡ false
unfolding is_digit worth
space-no-digit X = refl
space-no-digit D = refl
space-no-digit Q = refl

-- nor is a tab
tab-no-digit : (r : Radix) → is_digit (base r) 9 ≡ false
unfolding is_digit worth
tab-no-digit X = refl
tab-no-digit D = refl
tab-no-digit Q = refl

-- neither a digit nor a byte of a name is a blank
digit-no-blank : (r : Radix) (b : ℕ) → is_digit (base r) b ≡ true → is_blank b ≡ false
unfolding is_blank
digit-no-blank r b e =
    let s : eqb b 32 ≡ false = ne_eqb b 32 (λ x. false≢true (sym (space-no-digit r) ∙ ap (is_digit (base r)) (sym x) ∙ e)) in
    let t : eqb b 9 ≡ false = ne_eqb b 9 (λ x. false≢true (sym (tab-no-digit r) ∙ ap (is_digit (base r)) (sym x) ∙ e)) in
    rw (s, t)

name-no-blank : (b : ℕ) → is_name_byte b ≡ true → is_blank b ≡ false
unfolding is_name_byte is_white
name-no-blank b e = go (is_blank b) refl e
  where
    go : (t : Bool) → is_blank b ≡ t → not (t || is_cr_or_lf b) ≡ true → is_blank b ≡ false
    go true x y = absurd (false≢true y)
    go false x y = x

-- bytes that pass one test stop another that none of them passes
passes-stop : (p q t : ℕ → Bool) (w : List ℕ) → ((b : ℕ) → p b ≡ true → q b ≡ false) → 1 ≤ length w → Passes p w → Stops q t w
passes-stop p q t [] f l a = let z : ⊥ = omega arith in absurd z
passes-stop p q t (b ∷ w) f l a = stops-cons q t b w (f b a.0)

-- a word and one space
pub takes-lead : (at : ℕ) (w : List ℕ) → 1 ≤ length w → Takes (lead w) at (w ++ 32 ∷ []) tt is_blank
unfolding lead
takes-lead at w l = takes-next (takes-word at w l) (takes-space (at + length w)) (stops-never is_blank (32 ∷ []))

-- a line's letter and a name
pub takes-titled : (at b : ℕ) (n : List ℕ) → IsName n
    → Takes (titled (b ∷ [])) at (b ∷ 32 ∷ n) (record { at = at + 2; length = length n }) is_name_byte
unfolding titled
takes-titled at b n a = takes-next (takes-lead at (b ∷ []) (omega arith)) (takes-name (at + 2) n a.some a.each) (passes-stop is_name_byte is_blank is_name_byte n name-no-blank a.some a.each)

-- a number's digits stop blanks
pub digits-stop-blanks : (r : Radix) (q : ℕ → Bool) (width n : ℕ) → Stops is_blank q (digits_of (base r) width n)
digits-stop-blanks r q width n =
    passes-stop (is_digit (base r)) is_blank q (digits_of (base r) width n) (digit-no-blank r)
    (some-digit (base r) width n (low-base r) (high-base r)) (digits-are-digits (base r) width n (low-base r) (high-base r))

-- a word and a number, each behind one space
pub takes_field : (r : Radix) (at b : ℕ) (w : List ℕ) (width n : ℕ) → is_blank b ≡ false → n < 2 ^ 32
    → Takes (field (b ∷ w) (base r)) at (spaced ((b ∷ w) ∷ digits_of (base r) width n ∷ [])) n (is_digit (base r))
unfolding field
takes_field r at b w width n e i = takes_same
    (takes-next (takes-space at)
    (takes-next (takes-lead (at + 1) (b ∷ w) (omega arith)) (a-written-number-reads-back r (at + 1 + length (b ∷ (w ++ 32 ∷ []))) width n i)
    (digits-stop-blanks r (is_digit (base r)) width n)) (stops-cons is_blank (is_digit (base r)) b ((w ++ 32 ∷ []) ++ digits_of (base r) width n) e))
    (simp (append_assoc, append-nil))

-- a space stands behind
pub space-stops-digits : (r : Radix) (q : ℕ → Bool) (w : List ℕ) → Stops (is_digit (base r)) q (32 ∷ w)
space-stops-digits r q w = stops-cons (is_digit (base r)) q 32 w (space-no-digit r)

pub space-stops-names : (q : ℕ → Bool) (w : List ℕ) → Stops is_name_byte q (32 ∷ w)
unfolding is_name_byte is_white is_blank is_cr_or_lf
space-stops-names q w = stops-cons is_name_byte q 32 w refl

-- words, and more words, each behind a space
pub spaced-append : (xs ys : List (List ℕ)) → spaced (xs ++ ys) ≡ spaced xs ++ spaced ys
spaced-append [] ys = refl
spaced-append (w ∷ xs) ys = ap (λ (l : List ℕ). 32 ∷ (w ++ l)) (spaced-append xs ys) ∙ ap (λ (l : List ℕ). 32 ∷ l) (sym (append_assoc w (spaced xs) (spaced ys)))
