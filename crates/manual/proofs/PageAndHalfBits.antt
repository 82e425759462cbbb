-- Bits 5, 6 and 7 of the manual: references to a page, and which byte is taken.
-- Assumes nothing.
use Prim.Native.Nat.{ℕ, ◌%◌, ◌+◌, ◌/◌, ◌<◌, ◌^◌}
use mathlib.Core.Path.{◌≡◌, ap, refl, sym, ◌∙◌}
use mathlib.Core.Bool.{Bool, false, true}
use native.Mathlib.Omega.{arith}
use borrow.Author.Tests.{eqb-false}
use Rattle.format.specs.Lists.{pick}
use Rattle.format.specs.Mode.{Addr24, bit, class_of, gives, on_site, touched}
use Rattle.manual.specs.SameEffect.{AgreeBut, SameEffect}
use Rattle.manual.specs.Meaning.{SameButHalf, SameButPages, a_byte, a_word, any_page, area_list, high_byte, low_byte, meaning, normal, one_byte_of, one_page, pc_relative, signed, symbol_list, two_bytes, unsigned, word}
use Rattle.manual.specs.Meant.{MeantHalf, MeantPageOther, MeantPageZero}
use Rattle.manual.proofs.SameEffect.{same_class}
use Rattle.manual.proofs.OneBit.{one-bit-more, one-bit-set}
use Rattle.manual.proofs.ModeBits.{byte-class, no-bit-10, no-bit-8, no-effect}
use Rattle.manual.proofs.MeaningBits.{bit-0, bit-1, bit-2, bit-3, bit-4, bit-5, bit-6, bit-7, format-is, half_is, is_byte, is_high, is_paged, is_relative, is_symbol, is_two, is_unsigned, listed-is, page-other-is, page-zero-is, relation-is, sign-is, width_is}
use Rattle.manual.proofs.DatumClass.{class-by}

-- a bit of two modes by a word of their meanings
module _ (m m' : ℕ) where
  bits-0 : (meaning m).width ≡ (meaning m').width → bit 0 m ≡ bit 0 m'
  bits-0 e = sym (bit-0 m) ∙ ap is_byte e ∙ bit-0 m'

  bits-1 : (meaning m).listed ≡ (meaning m').listed → bit 1 m ≡ bit 1 m'
  bits-1 e = sym (bit-1 m) ∙ ap is_symbol e ∙ bit-1 m'

  bits-2 : (meaning m).relation ≡ (meaning m').relation → bit 2 m ≡ bit 2 m'
  bits-2 e = sym (bit-2 m) ∙ ap is_relative e ∙ bit-2 m'

  bits-3 : (meaning m).format ≡ (meaning m').format → bit 3 m ≡ bit 3 m'
  bits-3 e = sym (bit-3 m) ∙ ap is_two e ∙ bit-3 m'

  bits-4 : (meaning m).sign ≡ (meaning m').sign → bit 4 m ≡ bit 4 m'
  bits-4 e = sym (bit-4 m) ∙ ap is_unsigned e ∙ bit-4 m'

  bits-7 : (meaning m).half ≡ (meaning m').half → bit 7 m ≡ bit 7 m'
  bits-7 e = sym (bit-7 m) ∙ ap is_high e ∙ bit-7 m'

  module _ (below : m < 256) (below' : m' < 256) where
    bits-8 : bit 8 m ≡ bit 8 m'
    bits-8 = no-bit-8 m below ∙ sym (no-bit-8 m' below')

    bits-10 : bit 10 m ≡ bit 10 m'
    bits-10 = no-bit-10 m below ∙ sym (no-bit-10 m' below')

    pages-have-no-effect : SameButPages (meaning m) (meaning m') → SameEffect m m'
    pages-have-no-effect s =
        no-effect m m' (same_class m m' (bits-0 s.width) (bits-3 s.format) (bits-7 s.half) bits-8)
        (bits-0 s.width) (bits-1 s.listed) (bits-2 s.relation) (bits-4 s.sign) bits-8 bits-10

    half-has-no-effect : bit 0 m ≡ true → SameButHalf (meaning m) (meaning m') → SameEffect m m'
    half-has-no-effect b s =
        no-effect m m' (byte-class m m' b (bits-0 s.width) (bits-3 s.format) bits-8)
        (bits-0 s.width) (bits-1 s.listed) (bits-2 s.relation) (bits-4 s.sign) bits-8 bits-10

-- the same word by the same bit
same : {A : Type 0} (a b : A) (t u : Bool) {x y : A} → x ≡ pick t a b → y ≡ pick u a b → t ≡ u → x ≡ y
same a b t u p q e = p ∙ ap (λ (v : Bool). pick v a b) e ∙ sym q

-- words that agree because their bits do
module _ (m m' : ℕ) where
  same-widths : bit 0 m ≡ bit 0 m' → (meaning m).width ≡ (meaning m').width
  same-widths = same a_byte a_word (bit 0 m) (bit 0 m') (width_is m) (width_is m')

  same_lists : bit 1 m ≡ bit 1 m' → (meaning m).listed ≡ (meaning m').listed
  same_lists = same symbol_list area_list (bit 1 m) (bit 1 m') (listed-is m) (listed-is m')

  same-relations : bit 2 m ≡ bit 2 m' → (meaning m).relation ≡ (meaning m').relation
  same-relations = same pc_relative normal (bit 2 m) (bit 2 m') (relation-is m) (relation-is m')

  same-formats : bit 3 m ≡ bit 3 m' → (meaning m).format ≡ (meaning m').format
  same-formats = same two_bytes one_byte_of (bit 3 m) (bit 3 m') (format-is m) (format-is m')

  same-signs : bit 4 m ≡ bit 4 m' → (meaning m).sign ≡ (meaning m').sign
  same-signs = same unsigned signed (bit 4 m) (bit 4 m') (sign-is m) (sign-is m')

  same-zero-pages : bit 5 m ≡ bit 5 m' → (meaning m).page_zero ≡ (meaning m').page_zero
  same-zero-pages = same one_page any_page (bit 5 m) (bit 5 m') (page-zero-is m) (page-zero-is m')

  same-other-pages : bit 6 m ≡ bit 6 m' → (meaning m).page_other ≡ (meaning m').page_other
  same-other-pages = same one_page any_page (bit 6 m) (bit 6 m') (page-other-is m) (page-other-is m')

  same-halves : bit 7 m ≡ bit 7 m' → (meaning m).half ≡ (meaning m').half
  same-halves = same high_byte low_byte (bit 7 m) (bit 7 m') (half_is m) (half_is m')

  same-but-pages : bit 0 m ≡ bit 0 m' → bit 1 m ≡ bit 1 m' → bit 2 m ≡ bit 2 m' → bit 3 m ≡ bit 3 m' → bit 4 m ≡ bit 4 m' → bit 7 m ≡ bit 7 m'
      → SameButPages (meaning m) (meaning m')
  same-but-pages a b c d e f = record {
    width = same-widths a;
    listed = same_lists b;
    relation = same-relations c;
    format = same-formats d;
    sign = same-signs e;
    half = same-halves f;
  }

  same-but-half : AgreeBut 7 m m' → SameButHalf (meaning m) (meaning m')
  same-but-half a = record {
    width = same-widths (a 0 refl);
    listed = same_lists (a 1 refl);
    relation = same-relations (a 2 refl);
    format = same-formats (a 3 refl);
    sign = same-signs (a 4 refl);
    page_zero = same-zero-pages (a 5 refl);
    page_other = same-other-pages (a 6 refl);
  }

-- a mode without a bit has room for it
room-5 : (m : ℕ) → m < 256 → bit 5 m ≡ false → m + 0x20 < 256
unfolding bit
room-5 m h e = omega (arith, eqb-false (m / 2 ^ 5 % 2) 1 e)

room-6 : (m : ℕ) → m < 256 → bit 6 m ≡ false → m + 0x40 < 256
unfolding bit
room-6 m h e = omega (arith, eqb-false (m / 2 ^ 6 % 2) 1 e)

room-7 : (m : ℕ) → m < 256 → bit 7 m ≡ false → m + 0x80 < 256
unfolding bit
room-7 m h e = omega (arith, eqb-false (m / 2 ^ 7 % 2) 1 e)

pub bit-5-is-meant : (m : ℕ) → m < 256 → MeantPageZero m
bit-5-is-meant m below = record {
  no-effect = λ m' below' s o. pages-have-no-effect m m' below below' s;
  with_it = λ e.
      let c : bit 5 m ≡ false = sym (bit-5 m) ∙ ap is_paged e in
      let a : AgreeBut 5 m (m + 0x20) = one-bit-more 5 m c in (
        room-5 m below c,
        same-but-pages m (m + 0x20) (a 0 refl) (a 1 refl) (a 2 refl) (a 3 refl) (a 4 refl) (a 7 refl),
        same-other-pages m (m + 0x20) (a 6 refl),
        page-zero-is (m + 0x20) ∙ rw (one-bit-set 5 m c),
      );
}

pub bit-6-is-meant : (m : ℕ) → m < 256 → MeantPageOther m
bit-6-is-meant m below = record {
  no-effect = λ m' below' s o. pages-have-no-effect m m' below below' s;
  with_it = λ e.
      let c : bit 6 m ≡ false = sym (bit-6 m) ∙ ap is_paged e in
      let a : AgreeBut 6 m (m + 0x40) = one-bit-more 6 m c in (
        room-6 m below c,
        same-but-pages m (m + 0x40) (a 0 refl) (a 1 refl) (a 2 refl) (a 3 refl) (a 4 refl) (a 7 refl),
        same-zero-pages m (m + 0x40) (a 5 refl),
        page-other-is (m + 0x40) ∙ rw (one-bit-set 6 m c),
      );
}

pub bit-7-is-meant : (m : ℕ) → m < 256 → MeantHalf m
unfolding gives touched on_site
bit-7-is-meant m below = record {
  of-byte = λ w m' below' s. half-has-no-effect m m' below below' (sym (bit-0 m) ∙ ap is_byte w) s;
  with-high = λ e.
      let c : bit 7 m ≡ false = sym (bit-7 m) ∙ ap is_high e in
      (room-7 m below c, same-but-half m (m + 0x80) (one-bit-more 7 m c), half_is (m + 0x80) ∙ rw (one-bit-set 7 m c));
  of_word = λ w f h. let c : class_of m ≡ Addr24 = class-by m below ∙ rw (w, f, h) in (c, rw c, rw c, rw (c, no-bit-10 m below));
}
