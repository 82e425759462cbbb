-- Each word of a mode's meaning is one bit of the definition's.
-- Assumes nothing.
use Prim.Native.Nat.{suc, zero, ℕ, ◌%◌, ◌/◌, ◌<◌}
use mathlib.Core.Path.{◌≡◌, ap, refl, ◌∙◌}
use mathlib.Core.Bool.{Bool, false, true}
use native.Mathlib.Omega.{arith}
use lib.Dec.{eqb}
use Rattle.format.specs.Lists.{pick}
use Rattle.format.specs.Mode.{bit}
use Rattle.manual.specs.Meaning.{Format, Half, Listed, Page, Relation, Sign, Width, a_byte, a_word, any_page, area_list, either, high_byte, low_byte, meaning, normal, one_byte_of, one_page, pc_relative, signed, symbol_list, two_bytes, unsigned}

-- a choice by a digit below 2 goes by whether the digit is 1
chosen : {A : Type 0} (d : ℕ) (a b : A) → d < 2 → either d a b ≡ pick (eqb d 1) b a
chosen zero a b h = refl
chosen (suc zero) a b h = refl
chosen (suc (suc d)) a b h = absurd (omega arith)

pub width_is : (m : ℕ) → (meaning m).width ≡ pick (bit 0 m) a_byte a_word
unfolding meaning bit
width_is m = let same : m / 1 % 2 ≡ m % 2 = omega arith in rw same (chosen (m % 2) a_word a_byte (omega arith))

pub listed-is : (m : ℕ) → (meaning m).listed ≡ pick (bit 1 m) symbol_list area_list
unfolding meaning bit
listed-is m = chosen (m / 2 % 2) area_list symbol_list (omega arith)

pub relation-is : (m : ℕ) → (meaning m).relation ≡ pick (bit 2 m) pc_relative normal
unfolding meaning bit
relation-is m = chosen (m / 4 % 2) normal pc_relative (omega arith)

pub format-is : (m : ℕ) → (meaning m).format ≡ pick (bit 3 m) two_bytes one_byte_of
unfolding meaning bit
format-is m = chosen (m / 8 % 2) one_byte_of two_bytes (omega arith)

pub sign-is : (m : ℕ) → (meaning m).sign ≡ pick (bit 4 m) unsigned signed
unfolding meaning bit
sign-is m = chosen (m / 16 % 2) signed unsigned (omega arith)

pub page-zero-is : (m : ℕ) → (meaning m).page_zero ≡ pick (bit 5 m) one_page any_page
unfolding meaning bit
page-zero-is m = chosen (m / 32 % 2) any_page one_page (omega arith)

pub page-other-is : (m : ℕ) → (meaning m).page_other ≡ pick (bit 6 m) one_page any_page
unfolding meaning bit
page-other-is m = chosen (m / 64 % 2) any_page one_page (omega arith)

pub half_is : (m : ℕ) → (meaning m).half ≡ pick (bit 7 m) high_byte low_byte
unfolding meaning bit
half_is m = chosen (m / 128 % 2) low_byte high_byte (omega arith)

-- and back: each word tells its bit
abbrev pub is_byte : Width → Bool
is_byte a_word = false
is_byte a_byte = true

abbrev pub is_symbol : Listed → Bool
is_symbol area_list = false
is_symbol symbol_list = true

abbrev pub is_relative : Relation → Bool
is_relative normal = false
is_relative pc_relative = true

abbrev pub is_two : Format → Bool
is_two one_byte_of = false
is_two two_bytes = true

abbrev pub is_unsigned : Sign → Bool
is_unsigned signed = false
is_unsigned unsigned = true

abbrev pub is_paged : Page → Bool
is_paged any_page = false
is_paged one_page = true

abbrev pub is_high : Half → Bool
is_high low_byte = false
is_high high_byte = true

back : {A : Type 0} (f : A → Bool) (t : Bool) (a b : A) {x : A} → x ≡ pick t a b → f a ≡ true → f b ≡ false → f x ≡ t
back f true a b e p q = ap f e ∙ p
back f false a b e p q = ap f e ∙ q

module _ (m : ℕ) where
  pub bit-0 : is_byte (meaning m).width ≡ bit 0 m
  bit-0 = back is_byte (bit 0 m) a_byte a_word (width_is m) refl refl

  pub bit-1 : is_symbol (meaning m).listed ≡ bit 1 m
  bit-1 = back is_symbol (bit 1 m) symbol_list area_list (listed-is m) refl refl

  pub bit-2 : is_relative (meaning m).relation ≡ bit 2 m
  bit-2 = back is_relative (bit 2 m) pc_relative normal (relation-is m) refl refl

  pub bit-3 : is_two (meaning m).format ≡ bit 3 m
  bit-3 = back is_two (bit 3 m) two_bytes one_byte_of (format-is m) refl refl

  pub bit-4 : is_unsigned (meaning m).sign ≡ bit 4 m
  bit-4 = back is_unsigned (bit 4 m) unsigned signed (sign-is m) refl refl

  pub bit-5 : is_paged (meaning m).page_zero ≡ bit 5 m
  bit-5 = back is_paged (bit 5 m) one_page any_page (page-zero-is m) refl refl

  pub bit-6 : is_paged (meaning m).page_other ≡ bit 6 m
  bit-6 = back is_paged (bit 6 m) one_page any_page (page-other-is m) refl refl

  pub bit-7 : is_high (meaning m).half ≡ bit 7 m
  bit-7 = back is_high (bit 7 m) high_byte low_byte (half_is m) refl refl
