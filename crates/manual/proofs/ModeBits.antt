-- What the definition does with each of the manual's eight mode bits.
-- Assumes nothing.
use Prim.Native.Nat.{ℕ, ◌%◌, ◌+◌, ◌/◌, ◌<◌, ◌^◌}
use mathlib.Core.Path.{◌≡◌, ap, refl, ◌∙◌}
use mathlib.Core.Bool.{Bool, false, true, ◌||◌}
use native.Mathlib.Omega.{arith}
use lib.Dec.{eqb}
use borrow.Author.Tests.{ne_eqb}
use Rattle.format.specs.Lists.{pick}
use Rattle.format.specs.Mode.{Addr11, Addr16, Addr19, Addr24, Byte, Class, Other, bit, class_of, gives, gives_of, moves, on_site, size_of, touched}
use Rattle.format.specs.Fixups.{reference}
use Rattle.format.specs.Target.{signed_number, signed_start, target_of}
use Rattle.manual.specs.SameEffect.{SameEffect}
use Rattle.manual.specs.ModeBits.{AreaOrSymbol, ByteOrWord, HighByte, PcRelative, TwoByteForm, Unsigned, difference}
use Rattle.manual.proofs.OneBit.{one-bit-more}
use Rattle.manual.proofs.SameEffect.{same_class, same_gives, same-reference, same_step, same_target}

-- bits 8 and 10 are none of the manual's eight
pub no-bit-8 : (m : ℕ) → m < 256 → bit 8 m ≡ false
unfolding bit
no-bit-8 m h = ne_eqb (m / 2 ^ 8 % 2) 1 (λ e. omega arith)

pub no-bit-10 : (m : ℕ) → m < 256 → bit 10 m ≡ false
unfolding bit
no-bit-10 m h = ne_eqb (m / 2 ^ 10 % 2) 1 (λ e. omega arith)

size-of-byte : (t : Bool) → size_of (pick t Other Byte) ≡ 1
size-of-byte true = refl
size-of-byte false = refl

size-of-word : (a b : Bool) → size_of (pick a (pick b Addr19 Addr11) (pick b Addr24 Addr16)) ≡ pick b 3 2
size-of-word true true = refl
size-of-word true false = refl
size-of-word false true = refl
size-of-word false false = refl

pub bit-0-is-byte-or-word : (m : ℕ) → ByteOrWord m
unfolding class_of on_site
bit-0-is-byte-or-word m = record {
  byte-class = λ e. rw e;
  byte-size = λ e. rw e (size-of-byte (bit 3 m || bit 8 m));
  word-class = λ e. rw e;
  word_size = λ h e. rw (e, no-bit-8 m h) (size-of-word (bit 3 m) (bit 7 m));
  rest = λ m' a. same-reference m m' (a 1 refl);
}

pub bit-1-is-area-or-symbol : (m : ℕ) → AreaOrSymbol m
unfolding reference
bit-1-is-area-or-symbol m = record {
  symbol = λ e t place entry index. rw e;
  area = λ e t place entry index. rw e;
  rest = λ m' a.
      let c = same_class m m' (a 0 refl) (a 3 refl) (a 7 refl) (a 8 refl) in
      (same_step m m' c (a 8 refl), same_gives m m' c (a 2 refl) (a 10 refl), same_target m m' c (a 0 refl) (a 2 refl) (a 4 refl) (a 8 refl));
}

gives-of-byte : (m : ℕ) (c : Class) → c ≡ Byte → gives_of c m ≡ bit 2 m
gives-of-byte m c e = rw e

gives-of-other : (m m' : ℕ) (c : Class) → (c ≡ Byte → ⊥) → bit 10 m ≡ bit 10 m' → gives_of c m ≡ gives_of c m'
gives-of-other m m' Addr19 n e = rw e
gives-of-other m m' Addr11 n e = rw e
gives-of-other m m' Addr24 n e = rw e
gives-of-other m m' Addr16 n e = rw e
gives-of-other m m' Byte n e = absurd (n refl)
gives-of-other m m' Other n e = refl

pub bit-2-is-pc-relative : (m : ℕ) → PcRelative m
unfolding target_of difference gives
bit-2-is-pc-relative m = record {
  relative = λ e big n bs addr. rw e;
  normal = λ e big n bs addr. rw e;
  byte-gives = λ e. gives-of-byte m (class_of m) e;
  other-gives = λ m' a n.
      let c = same_class m m' (a 0 refl) (a 3 refl) (a 7 refl) (a 8 refl) in
      gives-of-other m m' (class_of m) n (a 10 refl) ∙ ap (λ (k : Class). gives_of k m') c;
  rest = λ m' a.
      let c = same_class m m' (a 0 refl) (a 3 refl) (a 7 refl) (a 8 refl) in
      (same_step m m' c (a 8 refl), same-reference m m' (a 1 refl));
}

no-opcode : (a b c d : Bool) → moves (pick a (pick b Other Byte) (pick c Addr24 (pick d Other Addr16))) ≡ false
no-opcode true true c d = refl
no-opcode true false c d = refl
no-opcode false b true d = refl
no-opcode false b false true = refl
no-opcode false b false false = refl

pub bit-3-is-the-two-byte-form : (m : ℕ) → TwoByteForm m
unfolding class_of touched on_site gives
bit-3-is-the-two-byte-form m = record {
  of-byte = λ e b. (rw (b, e), rw (b, e), rw (b, e), rw (b, e));
  of_word = λ e b. rw (b, e);
  clear = λ e. rw e (no-opcode (bit 0 m) (bit 8 m) (bit 7 m) (bit 8 m));
  rest = λ m' a. same-reference m m' (a 1 refl);
}

pub bit-4-is-unsigned : (m : ℕ) → Unsigned m
unfolding difference signed_start signed_number
bit-4-is-unsigned m = record {
  unsigned = λ e big n bs. rw e;
  signed = λ e big n bs. rw e;
  rest = λ m' a.
      let c = same_class m m' (a 0 refl) (a 3 refl) (a 7 refl) (a 8 refl) in
      (same_step m m' c (a 8 refl), same_gives m m' c (a 2 refl) (a 10 refl), same-reference m m' (a 1 refl));
}

-- what no bit but 5, 6, 7 and 9 tells apart has the same effect, if the class is the same
pub no-effect : (m m' : ℕ) → class_of m ≡ class_of m' → bit 0 m ≡ bit 0 m' → bit 1 m ≡ bit 1 m' → bit 2 m ≡ bit 2 m' → bit 4 m ≡ bit 4 m' → bit 8 m ≡ bit 8 m' → bit 10 m ≡ bit 10 m'
    → SameEffect m m'
no-effect m m' c a b d e f g =
    record { step = same_step m m' c f; fixup = same_gives m m' c d g; refers = same-reference m m' b; target = same_target m m' c a d e f }

-- page 0 and page nnn: no effect, one or both
pub bits-5-and-6-have-no-effect : (m m' : ℕ) → ((j : ℕ) → eqb j 5 ≡ false → eqb j 6 ≡ false → bit j m ≡ bit j m') → SameEffect m m'
bits-5-and-6-have-no-effect m m' a =
    no-effect m m' (same_class m m' (a 0 refl refl) (a 3 refl refl) (a 7 refl refl) (a 8 refl refl))
    (a 0 refl refl) (a 1 refl refl) (a 2 refl refl) (a 4 refl refl) (a 8 refl refl) (a 10 refl refl)

-- a mode, and the mode with bit 5 set
pub bit-5-has-no-effect : (m : ℕ) → bit 5 m ≡ false → SameEffect m (m + 32)
bit-5-has-no-effect m c = bits-5-and-6-have-no-effect m (m + 32) (λ j five six. one-bit-more 5 m c j five)

-- a mode, and the mode with bit 6 set
pub bit-6-has-no-effect : (m : ℕ) → bit 6 m ≡ false → SameEffect m (m + 64)
bit-6-has-no-effect m c = bits-5-and-6-have-no-effect m (m + 64) (λ j five six. one-bit-more 6 m c j six)

-- the class of a byte goes by bits 3 and 8
pub byte-class : (m m' : ℕ) → bit 0 m ≡ true → bit 0 m ≡ bit 0 m' → bit 3 m ≡ bit 3 m' → bit 8 m ≡ bit 8 m' → class_of m ≡ class_of m'
unfolding class_of
byte-class m m' b a c d = rw (b, ← a, b, c, d)

pub bit-7-is-the-high-byte : (m : ℕ) → HighByte m
unfolding class_of
bit-7-is-the-high-byte m = record {
  of_word = λ e b. rw (b, e);
  low_word = λ e b. rw (b, e);
  of-byte = λ m' a b. no-effect m m' (byte-class m m' b (a 0 refl) (a 3 refl) (a 8 refl)) (a 0 refl) (a 1 refl) (a 2 refl) (a 4 refl) (a 8 refl) (a 10 refl);
  rest = λ m' a. same-reference m m' (a 1 refl);
}
