-- The definition against the manual's eight mode bits: for every mode below 256, that the readers and the mode layer go by the mode's meaning,
-- or exactly what they do instead. Such a place names its row of docs/DIFFERENCES.md, 'From the manual'. (That a mode from F0 on is written
-- in two bytes is row 'The escape'.)
-- Assumes nothing.
use Rattle.std.specs.Prelude.{ℕ, ◌+◌, ◌-◌, ◌<◌, ◌≤◌, ◌≡◌, Bool, false, true, List, [], ◌++◌, ◌∷◌, length, replicate}
use Rattle.std.proofs.Math.Option.{none}
use Rattle.std.proofs.Math.ListN.{get_elem?}
use Rattle.format.specs.Lists.{over}
use Rattle.format.specs.Mode.{Addr11, Addr16, Addr19, Addr24, Byte, Other, class_of, gives, on_site, touched}
use Rattle.format.specs.ModeStep.{step_keeps_of, step_masks, step_number, step_values}
use Rattle.format.specs.Outcome.{fine, refused}
use Rattle.format.specs.Tables.{Tables, rank}
use Rattle.format.specs.Fixups.{reference, symbol_ref, to_area}
use Rattle.format.specs.Target.{high, near, number_bit, signed_number, signed_start, start_of, target_of, wrap_add, wrap_sub}
use Rattle.manual.specs.Specifier.{Order, bits16, is_big}
use Rattle.manual.specs.SameEffect.{SameEffect}
use Rattle.manual.specs.Meaning.{Datum, Half, Meaning, Page, SameButHalf, SameButPages, a_byte, a_word, any_page, area_list, byte, byte_of_two, covers, datum, high_byte, leaves, low_byte, meaning, normal, one_byte_of, one_page, pc_relative, reached, signed, symbol_list, two_bytes, unsigned, value_of, word, word_of}
use Rattle.manual.specs.ModeBits.{difference}

-- A datum's way through the work line: as many entries as it covers under 16 bits belong to it and are left open, for the linker; of these as many
-- stay as it leaves.
pub record Handled (m : ℕ) (d : Datum) : Type 0 where
  pub touches : touched m ≡ covers bits16 d
  pub on-site : on_site m ≡ leaves d
  pub values : (vs : List ℕ) → step_values m vs ≡ over (replicate (covers bits16 d) 0) vs
  pub masks : (ms : List ℕ) → step_masks m ms ≡ over (replicate (covers bits16 d) 0) ms
  pub keeps : (ks : List ℕ) → step_keeps_of m ks ≡ over (replicate (leaves d) 1 ++ replicate (covers bits16 d - leaves d) 0) ks

-- Bit 0. A word is two bytes in the header's order, a byte is one, and both stay: as the manual has it.
pub record MeantWidth (m : ℕ) : Type 0 where
  pub word-class : datum (meaning m) ≡ word → class_of m ≡ Addr16
  pub word-handled : datum (meaning m) ≡ word → Handled m word
  pub word_number : datum (meaning m) ≡ word → (o : Order) (a b : ℕ) (vs : List ℕ) → step_number (is_big o) m (a ∷ b ∷ vs) ≡ word_of o a b
  pub word-start : datum (meaning m) ≡ word → (o : Order) (a b : ℕ) (bs : List ℕ) → start_of (class_of m) (is_big o) (a ∷ b ∷ bs) ≡ word_of o a b
  pub byte-class : datum (meaning m) ≡ byte → class_of m ≡ Byte
  pub byte-handled : datum (meaning m) ≡ byte → Handled m byte
  pub byte-number : datum (meaning m) ≡ byte → (o : Order) (a : ℕ) (vs : List ℕ) → step_number (is_big o) m (a ∷ vs) ≡ a
  pub byte-start : datum (meaning m) ≡ byte → (o : Order) (a : ℕ) (bs : List ℕ) → start_of (class_of m) (is_big o) (a ∷ bs) ≡ a

-- Bit 1. The index counts in the list of areas, or in the list of symbols: as the manual has it.
-- Row 'Index past its table': an area's refers to nothing, a symbol's is refused with 11.
pub record MeantList (m : ℕ) : Type 0 where
  pub by-area : (meaning m).listed ≡ area_list → (t : Tables) (place entry index : ℕ)
      → reference t place (record { mode = m; entry = entry; index = index }) ≡ fine (to_area (rank 0 t.areas index) 0)
  pub by-symbol : (meaning m).listed ≡ symbol_list → (t : Tables) (place entry index : ℕ)
      → reference t place (record { mode = m; entry = entry; index = index }) ≡ symbol_ref t.areas place (get_elem? t.symbols index)
  pub past-areas : (meaning m).listed ≡ area_list → (t : Tables) (place entry index : ℕ) → length t.areas ≤ index
      → reference t place (record { mode = m; entry = entry; index = index }) ≡ fine none
  pub past-symbols : (meaning m).listed ≡ symbol_list → (t : Tables) (place entry index : ℕ) → length t.symbols ≤ index
      → reference t place (record { mode = m; entry = entry; index = index }) ≡ refused 11 place

-- the target of a word or a byte
pub record Targets (m : ℕ) (d : Datum) : Type 0 where
  -- normal: its value less the fragment's number, within the address's 65,536 positions
  pub of-normal : (meaning m).relation ≡ normal → (big : Bool) (n : ℕ) (bs : List ℕ) (addr : ℕ)
      → target_of big m n bs addr ≡ near 16 (difference big m n bs) addr
  -- Row 'Bit 2': relative, the address behind it is taken off and not added
  pub of-relative : (meaning m).relation ≡ pc_relative → (big : Bool) (n : ℕ) (bs : List ℕ) (addr : ℕ)
      → target_of big m n bs addr ≡ near 16 (wrap_sub (difference big m n bs) (wrap_add addr (leaves d))) addr

-- Bit 2. Normal targets are as the manual has them, relative ones are not.
pub record MeantRelation (m : ℕ) : Type 0 where
  pub of_word : datum (meaning m) ≡ word → Targets m word
  -- with no number to take off, a normal word is its target
  pub word-leads : datum (meaning m) ≡ word → (meaning m).relation ≡ normal → (o : Order) (a b : ℕ) (bs : List ℕ) (addr : ℕ)
      → a < 256 → b < 256 → addr < 65536 → target_of (is_big o) m 0 (a ∷ b ∷ bs) addr ≡ word_of o a b
  pub of-byte : datum (meaning m) ≡ byte → Targets m byte
  -- Row 'Bit 2': a word gives a fixup, normal or relative; a byte only if it is relative
  pub word-gives : datum (meaning m) ≡ word → gives m ≡ true
  pub normal-byte : datum (meaning m) ≡ byte → (meaning m).relation ≡ normal → gives m ≡ false
  pub relative-byte : datum (meaning m) ≡ byte → (meaning m).relation ≡ pc_relative → gives m ≡ true

-- Bit 3. A byte that is taken out of two has both of them in the T line and leaves one: as the manual has it under 16 bits.
-- Row '24 and 32 bits': there the manual has three or four in the T line, and here there are two under every header.
pub record MeantFormat (m : ℕ) : Type 0 where
  pub of-two-class : (h : Half) → datum (meaning m) ≡ byte_of_two h → class_of m ≡ Other
  pub of_two : (h : Half) → datum (meaning m) ≡ byte_of_two h → Handled m (byte_of_two h)
  -- Row 'Bit 7 of a byte': it gives no fixup, and its number is 0
  pub no-fixup : (h : Half) → datum (meaning m) ≡ byte_of_two h → gives m ≡ false
  pub no_number : (h : Half) → datum (meaning m) ≡ byte_of_two h → (big : Bool) (vs : List ℕ) → step_number big m vs ≡ 0
  -- Row 'Bits 3 and 7 of a word': class Addr11, or Addr19 with bit 7, with one more entry than stays, the opcode
  pub of_word : (meaning m).width ≡ a_word → (meaning m).format ≡ two_bytes → (meaning m).half ≡ low_byte
      → (class_of m ≡ Addr11) × (touched m ≡ 3) × (on_site m ≡ 2) × (gives m ≡ true)
  pub of-high-word : (meaning m).width ≡ a_word → (meaning m).format ≡ two_bytes → (meaning m).half ≡ high_byte
      → (class_of m ≡ Addr19) × (touched m ≡ 4) × (on_site m ≡ 3) × (gives m ≡ true)

-- Bit 4. The value of a byte is with its sign, or without: as the manual has it.
pub record MeantSign (m : ℕ) : Type 0 where
  pub of-byte : datum (meaning m) ≡ byte → (big : Bool) (b : ℕ) (bs : List ℕ) → b < 256 → difference big m 0 (b ∷ bs) ≡ value_of (meaning m).sign b
  -- Row 'Bit 4': the same for every class, and for the fragment's number
  pub of-any-unsigned : (meaning m).sign ≡ unsigned → (big : Bool) (n : ℕ) (bs : List ℕ) → difference big m n bs ≡ wrap_sub (start_of (class_of m) big bs) n
  pub of-any-signed : (meaning m).sign ≡ signed → (big : Bool) (n : ℕ) (bs : List ℕ)
      → difference big m n bs ≡ wrap_sub (signed_start true (high (class_of m)) (start_of (class_of m) big bs)) (signed_number true (number_bit (class_of m) false) n)

-- Bits 5 and 6. Row 'Bits 5 and 6': a reference to a page has no effect. Each mode without it has a partner with it, all else being the same.
pub record MeantPage (m worth : ℕ) (page other : Meaning → Page) : Type 0 where
  pub no-effect : (m' : ℕ) → m' < 256 → SameButPages (meaning m) (meaning m') → other (meaning m) ≡ other (meaning m') → SameEffect m m'
  pub with_it : page (meaning m) ≡ any_page
      → (m + worth < 256) × SameButPages (meaning m) (meaning (m + worth)) × (other (meaning m) ≡ other (meaning (m + worth)))
      × (page (meaning (m + worth)) ≡ one_page)

abbrev pub MeantPageZero : ℕ → Type 0
MeantPageZero m = MeantPage m 0x20 (λ μ. μ.page_zero) (λ μ. μ.page_other)

abbrev pub MeantPageOther : ℕ → Type 0
MeantPageOther m = MeantPage m 0x40 (λ μ. μ.page_other) (λ μ. μ.page_zero)

-- Bit 7. Row 'Bit 7 of a byte': which byte is taken has no effect.
pub record MeantHalf (m : ℕ) : Type 0 where
  pub of-byte : (meaning m).width ≡ a_byte → (m' : ℕ) → m' < 256 → SameButHalf (meaning m) (meaning m') → SameEffect m m'
  pub with-high : (meaning m).half ≡ low_byte
      → (m + 0x80 < 256) × SameButHalf (meaning m) (meaning (m + 0x80)) × ((meaning (m + 0x80)).half ≡ high_byte)
  -- Row 'Bits 3 and 7 of a word': class Addr24, three entries that all stay
  pub of_word : (meaning m).width ≡ a_word → (meaning m).format ≡ one_byte_of → (meaning m).half ≡ high_byte
      → (class_of m ≡ Addr24) × (touched m ≡ 3) × (on_site m ≡ 3) × (gives m ≡ true)

-- the smallest cases of the rows 'Bit 2' and 'Bit 4'
pub record MeantOtherwise : Type 0 where
  -- byte 05 at 10, relative, number 0
  pub manual-leads : reached byte 0x05 0x10 ≡ 0x16
  pub here-leads : target_of true 0x05 0 (0x05 ∷ []) 0x10 ≡ 0xFFF4
  -- word 8000 at 0 with number 8000: signed, and unsigned
  pub signed_word : target_of true 0x00 0x8000 (0x80 ∷ 0x00 ∷ []) 0 ≡ 2
  pub unsigned-word : target_of true 0x10 0x8000 (0x80 ∷ 0x00 ∷ []) 0 ≡ 0
