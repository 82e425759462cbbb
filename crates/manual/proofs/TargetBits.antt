-- Bits 2 and 4 of the manual: normal or relative, signed or unsigned.
-- Assumes nothing.
use Prim.Native.Nat.{suc, zero, ℕ, ◌%◌, ◌+◌, ◌-◌, ◌/◌, ◌<◌, ◌^◌}
use mathlib.Core.Path.{◌≡◌, ap, refl, sym, ◌∙◌}
use mathlib.Core.Bool.{Bool, false, not, true, ◌&&◌}
use mathlib.Core.List.{List, ◌∷◌}
use native.Mathlib.Omega.{arith}
use borrow.Author.Tests.{eq-eqb, ne_eqb}
use Rattle.format.specs.Lists.{pick}
use Rattle.format.specs.Number.{horner, join}
use Rattle.format.specs.Mode.{Addr16, Byte, bit, class_of, gives}
use Rattle.format.specs.Target.{block, high, near, number_bit, signed_number, signed_start, start_of, target_of, two_shifted, wrap_add, wrap_sub}
use Rattle.manual.specs.Specifier.{H, L, Order, is_big}
use Rattle.manual.specs.Meaning.{Sign, byte, datum, either, meaning, normal, reached, signed, unsigned, value_of, word, word_of}
use Rattle.manual.specs.ModeBits.{difference}
use Rattle.manual.specs.Meant.{MeantOtherwise, MeantRelation, MeantSign, Targets}
use Rattle.manual.proofs.ModeBits.{bit-2-is-pc-relative, bit-4-is-unsigned, no-bit-10, no-bit-8}
use Rattle.manual.proofs.MeaningBits.{bit-2, bit-4, is_relative, is_unsigned}
use Rattle.manual.proofs.DatumClass.{class-for, joined_word, width-for}

-- the target of a word and of a byte
module _ (m : ℕ) (below : m < 256) where
  targets-word : datum (meaning m) ≡ word → bit 0 m ≡ false → Targets m word
  targets-word e w =
      let c : class_of m ≡ Addr16 = class-for m below word e in
      record {
        of-normal = λ r big n bs addr. (bit-2-is-pc-relative m).normal (sym (bit-2 m) ∙ ap is_relative r) big n bs addr ∙ rw c;
        of-relative = λ r big n bs addr. (bit-2-is-pc-relative m).relative (sym (bit-2 m) ∙ ap is_relative r) big n bs addr ∙ rw (c, w);
      }

  targets-byte : datum (meaning m) ≡ byte → bit 0 m ≡ true → Targets m byte
  targets-byte e w =
      let c : class_of m ≡ Byte = class-for m below byte e in
      record {
        of-normal = λ r big n bs addr. (bit-2-is-pc-relative m).normal (sym (bit-2 m) ∙ ap is_relative r) big n bs addr ∙ rw c;
        of-relative = λ r big n bs addr. (bit-2-is-pc-relative m).relative (sym (bit-2 m) ∙ ap is_relative r) big n bs addr ∙ rw (c, w);
      }

-- the low 16 bits of a word with no number taken off are the word, with its sign or without
near-pick : (t : Bool) (w addr : ℕ) → w < 65536 → addr < 65536 → near 16 (wrap_sub (pick t (wrap_sub w 65536) w) 0) addr ≡ w
unfolding near wrap_sub
near-pick true w addr h k = omega arith
near-pick false w addr h k = omega arith

no_number : (s : Bool) → signed_number s 15 0 ≡ 0
unfolding signed_number bit
no_number true = refl
no_number false = refl

near_word : (s : Bool) (w addr : ℕ) → w < 65536 → addr < 65536 → near 16 (wrap_sub (signed_start s 15 w) (signed_number s 15 0)) addr ≡ w
unfolding signed_start
near_word s w addr h k = rw (no_number s) (near-pick (s && bit 15 w) w addr h k)

short-word : (o : Order) (a b : ℕ) → a < 256 → b < 256 → word_of o a b < 65536
short-word H a b h k = omega arith
short-word L a b h k = omega arith

normal-word : (m : ℕ) → class_of m ≡ Addr16 → (o : Order) (a b : ℕ) (bs : List ℕ) (addr : ℕ) → a < 256 → b < 256 → addr < 65536
    → near 16 (difference (is_big o) m 0 (a ∷ b ∷ bs)) addr ≡ word_of o a b
unfolding difference
normal-word m c o a b bs addr h k l = rw (c, joined_word o a b) (near_word (not (bit 4 m)) (word_of o a b) addr (short-word o a b h k) l)

pub bit-2-is-meant : (m : ℕ) → m < 256 → MeantRelation m
unfolding gives
bit-2-is-meant m below = record {
  of_word = λ e. targets-word m below e (width-for m word e);
  word-leads = λ e r o a b bs addr h k l.
      (targets-word m below e (width-for m word e)).of-normal r (is_big o) 0 (a ∷ b ∷ bs) addr ∙ normal-word m (class-for m below word e) o a b bs addr h k l;
  of-byte = λ e. targets-byte m below e (width-for m byte e);
  word-gives = λ e. rw (class-for m below word e, no-bit-10 m below);
  normal-byte = λ e r. rw (class-for m below byte e) (sym (bit-2 m) ∙ ap is_relative r);
  relative-byte = λ e r. rw (class-for m below byte e) (sym (bit-2 m) ∙ ap is_relative r);
}

-- a byte's value, with no number taken off
bare : (b : ℕ) → b < 256 → wrap_sub b 0 ≡ b
unfolding wrap_sub
bare b h = omega arith

below_half : (b : ℕ) → b < 256 → b / 128 ≡ 0 → wrap_sub (signed_start true 7 b) (signed_number true 7 0) ≡ b
unfolding signed_start signed_number bit
below_half b h e = rw (ne_eqb (b / 128 % 2) 1 (λ x. omega arith)) (bare b h)

from-half : (b : ℕ) → b < 256 → b / 128 ≡ 1 → wrap_sub (signed_start true 7 b) (signed_number true 7 0) ≡ b + (2 ^ 64 - 256)
unfolding signed_start signed_number bit wrap_sub
from-half b h e = rw (eq-eqb (b / 128 % 2) 1 (omega arith)) (omega arith)

signed-byte : (b d : ℕ) → b < 256 → b / 128 ≡ d → wrap_sub (signed_start true 7 b) (signed_number true 7 0) ≡ either d b (b + (2 ^ 64 - 256))
signed-byte b zero h e = below_half b h e
signed-byte b (suc zero) h e = from-half b h e
signed-byte b (suc (suc d)) h e = absurd (omega arith)

pub bit-4-is-meant : (m : ℕ) → m < 256 → MeantSign m
bit-4-is-meant m below = record { of-byte = λ e big b bs h. of-byte e big b bs h (meaning m).sign refl; of-any-unsigned = any-unsigned; of-any-signed = any-signed }
  where
    any-unsigned : (meaning m).sign ≡ unsigned → (big : Bool) (n : ℕ) (bs : List ℕ) → difference big m n bs ≡ wrap_sub (start_of (class_of m) big bs) n
    any-unsigned s = (bit-4-is-unsigned m).unsigned (sym (bit-4 m) ∙ ap is_unsigned s)

    any-signed : (meaning m).sign ≡ signed → (big : Bool) (n : ℕ) (bs : List ℕ)
        → difference big m n bs ≡ wrap_sub (signed_start true (high (class_of m)) (start_of (class_of m) big bs)) (signed_number true (number_bit (class_of m) false) n)
    any-signed s big n bs = (bit-4-is-unsigned m).signed (sym (bit-4 m) ∙ ap is_unsigned s) big n bs ∙ rw (no-bit-8 m below)

    of-byte : datum (meaning m) ≡ byte → (big : Bool) (b : ℕ) (bs : List ℕ) → b < 256 → (s : Sign) → (meaning m).sign ≡ s → difference big m 0 (b ∷ bs) ≡ value_of s b
    of-byte e big b bs h signed s =
        any-signed s big 0 (b ∷ bs) ∙ rw (class-for m below byte e) (signed-byte b (b / 128) h refl)
    of-byte e big b bs h unsigned s =
        any-unsigned s big 0 (b ∷ bs) ∙ rw (class-for m below byte e) (bare b h)

pub two-bits-are-meant-otherwise : MeantOtherwise
unfolding reached target_of class_of bit near block join horner signed_start signed_number two_shifted wrap_add wrap_sub
two-bits-are-meant-otherwise = record { manual-leads = refl; here-leads = refl; signed_word = refl; unsigned-word = refl }
