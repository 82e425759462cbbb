-- Bits 0 and 3 of the manual: word or byte, and a byte by itself or out of two.
-- Assumes nothing.
use Prim.Native.Nat.{ℕ, ◌<◌}
use mathlib.Core.Path.{◌≡◌, refl, ◌∙◌}
use mathlib.Core.Bool.{Bool, false, true}
use mathlib.Core.List.{[]}
use Rattle.format.specs.Number.{horner, join, little}
use Rattle.format.specs.Mode.{Addr11, Addr16, Addr19, Byte, Other, bit, class_of, gives, on_site, touched}
use Rattle.format.specs.ModeStep.{fronted, keeps_by, masks_by, number_by_of, step_keeps_of, step_masks, step_number, step_values, values_by}
use Rattle.manual.specs.Meaning.{Half, byte, byte_of_two, word}
use Rattle.manual.specs.Meant.{Handled, MeantFormat, MeantWidth}
use Rattle.manual.proofs.ModeBits.{byte-class, no-bit-10, no-bit-8}
use Rattle.manual.proofs.DatumClass.{class-by, class-for, joined-byte, joined_word}

-- the work line, by the class
module _ (m : ℕ) where
  handled-word : class_of m ≡ Addr16 → Handled m word
  unfolding touched on_site step_values step_masks step_keeps_of values_by masks_by keeps_by fronted
  handled-word c = record { touches = rw c; on-site = rw c; values = λ vs. rw c; masks = λ ms. rw c; keeps = λ ks. rw c }

  handled-byte : class_of m ≡ Byte → Handled m byte
  unfolding touched on_site step_values step_masks step_keeps_of values_by masks_by keeps_by fronted
  handled-byte c = record { touches = rw c; on-site = rw c; values = λ vs. rw c; masks = λ ms. rw c; keeps = λ ks. rw c }

  handled-of-two : (h : Half) → class_of m ≡ Other → bit 8 m ≡ false → Handled m (byte_of_two h)
  unfolding touched on_site step_values step_masks step_keeps_of values_by masks_by keeps_by fronted
  handled-of-two h c e = record { touches = rw (c, e); on-site = rw c; values = λ vs. rw (c, e); masks = λ ms. rw (c, e); keeps = λ ks. rw (c, e) }

pub bit-0-is-meant : (m : ℕ) → m < 256 → MeantWidth m
unfolding step_number number_by_of
bit-0-is-meant m below = record {
  word-class = λ e. class-for m below word e;
  word-handled = λ e. handled-word m (class-for m below word e);
  word_number = λ e o a b vs. rw (class-for m below word e) (joined_word o a b);
  word-start = λ e o a b bs. rw (class-for m below word e) (joined_word o a b);
  byte-class = λ e. class-for m below byte e;
  byte-handled = λ e. handled-byte m (class-for m below byte e);
  byte-number = λ e o a vs. rw (class-for m below byte e) (joined-byte o a);
  byte-start = λ e o a bs. rw (class-for m below byte e);
}

pub bit-3-is-meant : (m : ℕ) → m < 256 → MeantFormat m
unfolding gives touched on_site step_number number_by_of join horner little
bit-3-is-meant m below = record {
  of-two-class = λ h e. class-for m below (byte_of_two h) e;
  of_two = λ h e. handled-of-two m h (class-for m below (byte_of_two h) e) (no-bit-8 m below);
  no-fixup = λ h e. rw (class-for m below (byte_of_two h) e);
  no_number = λ h e big vs. rw (class-for m below (byte_of_two h) e) (nothing-joined big);
  of_word = λ w f h. let c : class_of m ≡ Addr11 = class-by m below ∙ rw (w, f, h) in (c, rw c, rw c, rw (c, no-bit-10 m below));
  of-high-word = λ w f h. let c : class_of m ≡ Addr19 = class-by m below ∙ rw (w, f, h) in (c, rw c, rw c, rw (c, no-bit-10 m below));
}
  where
    nothing-joined : (big : Bool) → join big [] ≡ 0
    nothing-joined true = refl
    nothing-joined false = refl
