-- The class and the width of a mode by what its meaning says of the datum, and the bytes of a datum joined.
-- Assumes nothing.
use Prim.Native.Nat.{ℕ, ◌<◌}
use mathlib.Core.Path.{◌≡◌, ap, refl, subst, sym, ◌∙◌}
use mathlib.Core.Bool.{false, ◌||◌}
use mathlib.Core.List.{[], ◌∷◌}
use native.Mathlib.Omega.{arith}
use Rattle.format.specs.Lists.{pick}
use Rattle.format.specs.Number.{horner, join, little}
use Rattle.format.specs.Mode.{Addr11, Addr16, Addr19, Addr24, Byte, Class, Other, bit, class_of}
use Rattle.manual.specs.Specifier.{H, L, Order, is_big}
use Rattle.manual.specs.Meaning.{Datum, Format, Half, Width, a_byte, a_word, byte, byte_of_two, datum, datum_of, high_byte, low_byte, meaning, one_byte_of, two_bytes, unsaid, word, word_of}
use Rattle.manual.proofs.ModeBits.{no-bit-8}
use Rattle.manual.proofs.MeaningBits.{bit-0, bit-3, bit-7, is_byte, is_high, is_two}

-- the class of a mode, by what its meaning says of width, format and byte
abbrev class_by : Width → Format → Half → Class
class_by a_word one_byte_of low_byte = Addr16
class_by a_word one_byte_of high_byte = Addr24
class_by a_word two_bytes low_byte = Addr11
class_by a_word two_bytes high_byte = Addr19
class_by a_byte one_byte_of h = Byte
class_by a_byte two_bytes h = Other

class_cases : (w : Width) (f : Format) (h : Half)
    → pick (is_byte w) (pick (is_two f || false) Other Byte) (pick (is_two f) (pick (is_high h) Addr19 Addr11) (pick (is_high h) Addr24 (pick false Other Addr16)))
    ≡ class_by w f h
class_cases a_word one_byte_of low_byte = refl
class_cases a_word one_byte_of high_byte = refl
class_cases a_word two_bytes low_byte = refl
class_cases a_word two_bytes high_byte = refl
class_cases a_byte one_byte_of h = refl
class_cases a_byte two_bytes h = refl

-- the class of a datum; the other one where the manual says nothing
abbrev class_for : Datum → Class → Class
class_for word c = Addr16
class_for byte c = Byte
class_for (byte_of_two h) c = Other
class_for unsaid c = c

datum-cases : (w : Width) (f : Format) (h : Half) → class_by w f h ≡ class_for (datum_of w f h) (class_by w f h)
datum-cases a_word one_byte_of low_byte = refl
datum-cases a_word one_byte_of high_byte = refl
datum-cases a_word two_bytes h = refl
datum-cases a_byte one_byte_of h = refl
datum-cases a_byte two_bytes h = refl

module _ (m : ℕ) (below : m < 256) where
  pub class-by : class_of m ≡ class_by (meaning m).width (meaning m).format (meaning m).half
  unfolding class_of
  class-by = rw (← bit-0 m, ← bit-3 m, ← bit-7 m, no-bit-8 m below) (class_cases (meaning m).width (meaning m).format (meaning m).half)

  pub class-for : (d : Datum) → datum (meaning m) ≡ d → class_of m ≡ class_for d (class_of m)
  unfolding datum
  class-for d e =
      subst (λ (c : Class). c ≡ class_for (datum (meaning m)) c) (sym class-by) (datum-cases (meaning m).width (meaning m).format (meaning m).half)
      ∙ ap (λ (x : Datum). class_for x (class_of m)) e

-- a word's width and a byte's, by the datum
abbrev width_for : Datum → Width → Width
width_for word w = a_word
width_for byte w = a_byte
width_for (byte_of_two h) w = a_byte
width_for unsaid w = w

width-cases : (w : Width) (f : Format) (h : Half) → w ≡ width_for (datum_of w f h) w
width-cases a_word one_byte_of low_byte = refl
width-cases a_word one_byte_of high_byte = refl
width-cases a_word two_bytes h = refl
width-cases a_byte one_byte_of h = refl
width-cases a_byte two_bytes h = refl

pub width-for : (m : ℕ) (d : Datum) → datum (meaning m) ≡ d → bit 0 m ≡ is_byte (width_for d (meaning m).width)
unfolding datum
width-for m d e =
    sym (bit-0 m)
    ∙ ap is_byte (width-cases (meaning m).width (meaning m).format (meaning m).half ∙ ap (λ (x : Datum). width_for x (meaning m).width) e)

-- two bytes joined
pub joined_word : (o : Order) (a b : ℕ) → join (is_big o) (a ∷ b ∷ []) ≡ word_of o a b
unfolding join horner little
joined_word H a b = omega arith
joined_word L a b = omega arith

pub joined-byte : (o : Order) (a : ℕ) → join (is_big o) (a ∷ []) ≡ a
unfolding join horner little
joined-byte H a = omega arith
joined-byte L a = omega arith
