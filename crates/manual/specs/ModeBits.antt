-- What the definition does with each of the manual's eight mode bits, for every mode. Bits 5 and 6 have no record: SameEffect says it.
-- Assumes nothing.
use Rattle.std.specs.Prelude.{ℕ, ◌<◌, ◌≡◌, Bool, false, not, true, ◌||◌, List}
use Rattle.std.proofs.Math.ListN.{get_elem?}
use Rattle.format.specs.Lists.{pick}
use Rattle.format.specs.Mode.{Addr11, Addr16, Addr19, Addr24, Byte, Other, bit, class_of, gives, moves, on_site, touched}
use Rattle.format.specs.Outcome.{fine}
use Rattle.format.specs.Tables.{Tables, rank}
use Rattle.format.specs.Fixups.{reference, symbol_ref, to_area}
use Rattle.format.specs.Target.{closing, high, in_block, near, number_bit, signed_number, signed_start, start_of, target_of, wrap_add, wrap_sub}
use Rattle.manual.specs.SameEffect.{AgreeBut, SameEffect, SameGives, SameReference, SameStep, SameTarget}

-- Bit 0, word or byte. A byte is of class Byte, or of class Other where it is chosen out of two or three, and leaves one byte.
-- A word is of class Addr11, Addr16, Addr19 or Addr24, and in the manual's eight bits leaves two bytes, or three with bit 7.
-- The symbol or area that is referred to is the same.
pub record ByteOrWord (m : ℕ) : Type 0 where
  pub byte-class : bit 0 m ≡ true → class_of m ≡ pick (bit 3 m || bit 8 m) Other Byte
  pub byte-size : bit 0 m ≡ true → on_site m ≡ 1
  pub word-class : bit 0 m ≡ false → class_of m ≡ pick (bit 3 m) (pick (bit 7 m) Addr19 Addr11) (pick (bit 7 m) Addr24 (pick (bit 8 m) Other Addr16))
  pub word_size : m < 256 → bit 0 m ≡ false → on_site m ≡ pick (bit 7 m) 3 2
  pub rest : (m' : ℕ) → AgreeBut 0 m m' → SameReference m m'

-- Bit 1, area or symbol: which table the index is looked up in. It has no other effect.
pub record AreaOrSymbol (m : ℕ) : Type 0 where
  pub symbol : bit 1 m ≡ true → (t : Tables) (place entry index : ℕ)
      → reference t place (record { mode = m; entry = entry; index = index }) ≡ symbol_ref t.areas place (get_elem? t.symbols index)
  pub area : bit 1 m ≡ false → (t : Tables) (place entry index : ℕ)
      → reference t place (record { mode = m; entry = entry; index = index }) ≡ fine (to_area (rank 0 t.areas index) 0)
  pub rest : (m' : ℕ) → AgreeBut 1 m m' → SameStep m m' × SameGives m m' × SameTarget m m'

-- the bytes' value with the fragment's number taken off, each with its sign if the mode is signed
unfoldable pub difference : Bool → (m n : ℕ) → List ℕ → ℕ
difference big m n bs =
    wrap_sub (signed_start (not (bit 4 m)) (high (class_of m)) (start_of (class_of m) big bs)) (signed_number (not (bit 4 m)) (number_bit (class_of m) (bit 8 m)) n)

-- Bit 2, normal or PC relative: set, the target has the address taken off, plus 1 for a byte and 2 for a word; clear, an Addr11 or Addr19 target
-- stays in its block and any other is as it is. A fragment of class Byte gives a fixup only if it is set; no other class asks. It has no other effect.
pub record PcRelative (m : ℕ) : Type 0 where
  pub relative : bit 2 m ≡ true → (big : Bool) (n : ℕ) (bs : List ℕ) (addr : ℕ)
      → target_of big m n bs addr ≡ near (closing (class_of m)) (wrap_sub (difference big m n bs) (wrap_add addr (pick (bit 0 m) 1 2))) addr
  pub normal : bit 2 m ≡ false → (big : Bool) (n : ℕ) (bs : List ℕ) (addr : ℕ)
      → target_of big m n bs addr ≡ near (closing (class_of m)) (in_block (class_of m) (difference big m n bs) addr) addr
  pub byte-gives : class_of m ≡ Byte → gives m ≡ bit 2 m
  pub other-gives : (m' : ℕ) → AgreeBut 2 m m' → (class_of m ≡ Byte → ⊥) → SameGives m m'
  pub rest : (m' : ℕ) → AgreeBut 2 m m' → SameStep m m' × SameReference m m'

-- Bit 3, the two-byte form. Of a byte: class Other, which touches two entries, or three with bit 8, leaves one byte and gives no fixup.
-- Of a word, which the manual does not have: Addr19 with bit 7, Addr11 without. Where it is clear no opcode moves. The reference is the same.
pub record TwoByteForm (m : ℕ) : Type 0 where
  pub of-byte : bit 3 m ≡ true → bit 0 m ≡ true → (class_of m ≡ Other) × (touched m ≡ pick (bit 8 m) 3 2) × (on_site m ≡ 1) × (gives m ≡ false)
  pub of_word : bit 3 m ≡ true → bit 0 m ≡ false → class_of m ≡ pick (bit 7 m) Addr19 Addr11
  pub clear : bit 3 m ≡ false → moves (class_of m) ≡ false
  pub rest : (m' : ℕ) → AgreeBut 3 m m' → SameReference m m'

-- Bit 4, signed or unsigned: set, no sign is taken off the bytes' value or the number; clear, both have theirs. It has no other effect.
pub record Unsigned (m : ℕ) : Type 0 where
  pub unsigned : bit 4 m ≡ true → (big : Bool) (n : ℕ) (bs : List ℕ) → difference big m n bs ≡ wrap_sub (start_of (class_of m) big bs) n
  pub signed : bit 4 m ≡ false → (big : Bool) (n : ℕ) (bs : List ℕ)
      → difference big m n bs ≡ wrap_sub (signed_start true (high (class_of m)) (start_of (class_of m) big bs)) (signed_number true (number_bit (class_of m) (bit 8 m)) n)
  pub rest : (m' : ℕ) → AgreeBut 4 m m' → SameStep m m' × SameGives m m' × SameReference m m'

-- Bit 7, low or high byte. Of a word, which the manual does not have: Addr19 with bit 3, Addr24 without; where it is clear, neither.
-- Of a byte it has no effect: which byte was chosen is not looked at.
pub record HighByte (m : ℕ) : Type 0 where
  pub of_word : bit 7 m ≡ true → bit 0 m ≡ false → class_of m ≡ pick (bit 3 m) Addr19 Addr24
  pub low_word : bit 7 m ≡ false → bit 0 m ≡ false → class_of m ≡ pick (bit 3 m) Addr11 (pick (bit 8 m) Other Addr16)
  pub of-byte : (m' : ℕ) → AgreeBut 7 m m' → bit 0 m ≡ true → SameEffect m m'
  pub rest : (m' : ℕ) → AgreeBut 7 m m' → SameReference m m'
