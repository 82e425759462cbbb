-- A mode's meaning says all of the mode: the table's numbers for it add up to the mode.
-- Assumes nothing.
use Prim.Native.Nat.{suc, zero, ℕ, ◌%◌, ◌*◌, ◌+◌, ◌/◌, ◌<◌}
use mathlib.Core.Path.{◌≡◌, refl, ◌∙◌}
use native.Mathlib.Omega.{arith}
use Rattle.manual.specs.Meaning.{a_byte, a_word, any_page, area_list, code, either, format_code, half_code, high_byte, listed_code, low_byte, meaning, normal, one_byte_of, one_page, page_other_code, page_zero_code, pc_relative, relation_code, sign_code, signed, symbol_list, two_bytes, unsigned, width_code}

-- a choice by a digit below 2 has the digit's share of the second's number
share : {A : Type 0} (d : ℕ) (a b : A) (f : A → ℕ) (w : ℕ) → d < 2 → f a ≡ 0 → f b ≡ w → f (either d a b) ≡ d * w
share zero a b f w h p q = omega arith
share (suc zero) a b f w h p q = omega arith
share (suc (suc d)) a b f w h p q = absurd (omega arith)

-- digits to the base 2 make digits to the base 4, and these to the base 16
to-4 : (x : ℕ) → x / 2 % 2 * 2 + x % 2 ≡ x % 4
to-4 x = omega arith

to-16 : (x : ℕ) → x / 4 % 4 * 4 + x % 4 ≡ x % 16
to-16 x = omega arith

third : (x : ℕ) → x / 4 / 2 ≡ x / 8
third x = omega arith

-- four digits make a number below 16
four : (x : ℕ) → x % 2 * 1 + x / 2 % 2 * 2 + x / 4 % 2 * 4 + x / 8 % 2 * 8 ≡ x % 16
four x =
    total (x % 2) (x / 2 % 2) (x / 4 % 2) (x / 8 % 2) (x % 4) (x / 4 % 4) (x % 16) (to-4 x) (rw third at (to-4 (x / 4))) (to-16 x)
  where
    total : (p q r s t u v : ℕ) → q * 2 + p ≡ t → s * 2 + r ≡ u → u * 4 + t ≡ v → p * 1 + q * 2 + r * 4 + s * 8 ≡ v
    total p q r s t u v e f g = omega arith

-- and eight a number below 256
eight : (m : ℕ) → m < 256
    → m % 2 * 1 + m / 2 % 2 * 2 + m / 4 % 2 * 4 + m / 8 % 2 * 8 + m / 16 % 2 * 16 + m / 32 % 2 * 32 + m / 64 % 2 * 64 + m / 128 % 2 * 128 ≡ m
eight m h =
    let a : m / 16 / 2 ≡ m / 32 = omega arith in
    let b : m / 16 / 4 ≡ m / 64 = omega arith in
    let c : m / 16 / 8 ≡ m / 128 = omega arith in
    let d : m / 16 % 16 * 16 + m % 16 ≡ m = omega arith in
    total (m % 2) (m / 2 % 2) (m / 4 % 2) (m / 8 % 2) (m / 16 % 2) (m / 32 % 2) (m / 64 % 2) (m / 128 % 2) (m % 16) (m / 16 % 16) m (four m)
    (rw (a, b, c) at (four (m / 16))) d
  where
    total : (p q r s p' q' r' s' t u v : ℕ) → p * 1 + q * 2 + r * 4 + s * 8 ≡ t → p' * 1 + q' * 2 + r' * 4 + s' * 8 ≡ u → u * 16 + t ≡ v
        → p * 1 + q * 2 + r * 4 + s * 8 + p' * 16 + q' * 32 + r' * 64 + s' * 128 ≡ v
    total p q r s p' q' r' s' t u v e f g = omega arith

-- sums of equals
sums : (a b c d e f g k a' b' c' d' e' f' g' k' : ℕ) → a ≡ a' → b ≡ b' → c ≡ c' → d ≡ d' → e ≡ e' → f ≡ f' → g ≡ g' → k ≡ k'
    → a + b + c + d + e + f + g + k ≡ a' + b' + c' + d' + e' + f' + g' + k'
sums a b c d e f g k a' b' c' d' e' f' g' k' p q r s t u v w = cc

-- the table's numbers for a mode's meaning add up to the mode
pub a-mode-is-its-meaning : (m : ℕ) → m < 256 → code (meaning m) ≡ m
unfolding code meaning
a-mode-is-its-meaning m h =
    sums _ _ _ _ _ _ _ _ (m % 2 * 1) (m / 2 % 2 * 2) (m / 4 % 2 * 4) (m / 8 % 2 * 8) (m / 16 % 2 * 16) (m / 32 % 2 * 32) (m / 64 % 2 * 64) (m / 128 % 2 * 128)
    (share (m % 2) a_word a_byte width_code 0x01 (omega arith) refl refl)
    (share (m / 2 % 2) area_list symbol_list listed_code 0x02 (omega arith) refl refl)
    (share (m / 4 % 2) normal pc_relative relation_code 0x04 (omega arith) refl refl)
    (share (m / 8 % 2) one_byte_of two_bytes format_code 0x08 (omega arith) refl refl)
    (share (m / 16 % 2) signed unsigned sign_code 0x10 (omega arith) refl refl)
    (share (m / 32 % 2) any_page one_page page_zero_code 0x20 (omega arith) refl refl)
    (share (m / 64 % 2) any_page one_page page_other_code 0x40 (omega arith) refl refl)
    (share (m / 128 % 2) low_byte high_byte half_code 0x80 (omega arith) refl refl)
    ∙ eight m h
