-- What the manual's table of eight mode bits says of a mode below 256, in our words. No name of the definition is used here.
-- Assumes nothing.
use Rattle.std.specs.Prelude.{suc, zero, ℕ, ◌%◌, ◌*◌, ◌+◌, ◌-◌, ◌/◌, ◌^◌, ◌≡◌}
use Rattle.manual.specs.Specifier.{Addressing, H, L, Order, address_bytes}

-- bit 0: what is relocated
pub data Width : Type 0 where
  a_word a_byte : Width

-- bit 1: the list in which the index counts
pub data Listed : Type 0 where
  area_list symbol_list : Listed

-- bit 2: whether the address is wanted, or the way to it
pub data Relation : Type 0 where
  normal pc_relative : Relation

-- bit 3: a byte by itself in the T line, or two bytes there of which one is taken
pub data Format : Type 0 where
  one_byte_of two_bytes : Format

-- bit 4: the sign of byte data
pub data Sign : Type 0 where
  signed unsigned : Sign

-- bits 5 and 6: a reference to anywhere, or one that must lie in a page: page 0 with bit 5, another with bit 6
pub data Page : Type 0 where
  any_page one_page : Page

-- bit 7: which of the bytes is taken, the lowest or the second
pub data Half : Type 0 where
  low_byte high_byte : Half

pub record Meaning : Type 0 where
  pub width : Width
  pub listed : Listed
  pub relation : Relation
  pub format : Format
  pub sign : Sign
  pub page_zero : Page
  pub page_other : Page
  pub half : Half

-- the first for 0, else the second
abbrev pub either : {A : Type 0} → ℕ → A → A → A
either zero a b = a
either (suc n) a b = b

-- a mode's meaning, bit by bit
unfoldable pub meaning : ℕ → Meaning
meaning m = record {
  width = either (m % 2) a_word a_byte;
  listed = either (m / 2 % 2) area_list symbol_list;
  relation = either (m / 4 % 2) normal pc_relative;
  format = either (m / 8 % 2) one_byte_of two_bytes;
  sign = either (m / 16 % 2) signed unsigned;
  page_zero = either (m / 32 % 2) any_page one_page;
  page_other = either (m / 64 % 2) any_page one_page;
  half = either (m / 128 % 2) low_byte high_byte;
}

-- the table's number for each word of a meaning
abbrev pub width_code : Width → ℕ
width_code a_word = 0x00
width_code a_byte = 0x01

abbrev pub listed_code : Listed → ℕ
listed_code area_list = 0x00
listed_code symbol_list = 0x02

abbrev pub relation_code : Relation → ℕ
relation_code normal = 0x00
relation_code pc_relative = 0x04

abbrev pub format_code : Format → ℕ
format_code one_byte_of = 0x00
format_code two_bytes = 0x08

abbrev pub sign_code : Sign → ℕ
sign_code signed = 0x00
sign_code unsigned = 0x10

abbrev pub page_zero_code : Page → ℕ
page_zero_code any_page = 0x00
page_zero_code one_page = 0x20

abbrev pub page_other_code : Page → ℕ
page_other_code any_page = 0x00
page_other_code one_page = 0x40

abbrev pub half_code : Half → ℕ
half_code low_byte = 0x00
half_code high_byte = 0x80

-- the mode of a meaning: the table's numbers, added
unfoldable pub code : Meaning → ℕ
code μ =
    width_code μ.width + listed_code μ.listed + relation_code μ.relation + format_code μ.format
    + sign_code μ.sign + page_zero_code μ.page_zero + page_other_code μ.page_other + half_code μ.half

-- The three forms of data in a T line: a word of two bytes, a byte, one byte out of two. Bits 3 and 7 speak of bytes; of a word that has one of
-- them the manual says nothing.
pub data Datum : Type 0 where
  word byte : Datum
  byte_of_two : Half → Datum
  unsaid : Datum

abbrev pub datum_of : Width → Format → Half → Datum
datum_of a_word one_byte_of low_byte = word
datum_of a_word one_byte_of high_byte = unsaid
datum_of a_word two_bytes h = unsaid
datum_of a_byte one_byte_of h = byte
datum_of a_byte two_bytes h = byte_of_two h

unfoldable pub datum : Meaning → Datum
datum μ = datum_of μ.width μ.format μ.half

-- How many bytes of the T line a datum has there, and how many it leaves in the image. A byte is taken out of as many as an address has.
abbrev pub covers : Addressing → Datum → ℕ
covers a word = 2
covers a byte = 1
covers a (byte_of_two h) = address_bytes a
covers a unsaid = 0

abbrev pub leaves : Datum → ℕ
leaves word = 2
leaves byte = 1
leaves (byte_of_two h) = 1
leaves unsaid = 0

-- the number that a word's bytes stand for: the first there, and the second
abbrev pub word_of : Order → ℕ → ℕ → ℕ
word_of H a b = a * 256 + b
word_of L a b = a + b * 256

-- a byte's value, as a number of 64 bits: with a sign, 256 less from 128 on
abbrev pub value_of : Sign → ℕ → ℕ
value_of signed b = either (b / 128) b (b + (2 ^ 64 - 256))
value_of unsigned b = b

-- Where a relative datum at an address leads: as far on as its value says, counted from behind it. (The manual does not say from where it is
-- counted: directly behind the datum's bytes is taken.)
unfoldable pub reached : Datum → (value addr : ℕ) → ℕ
reached d value addr = addr + leaves d + value

-- two meanings that agree in all but the page references, and two that agree in all but the byte that is taken
pub record SameButPages (μ ν : Meaning) : Type 0 where
  pub width : μ.width ≡ ν.width
  pub listed : μ.listed ≡ ν.listed
  pub relation : μ.relation ≡ ν.relation
  pub format : μ.format ≡ ν.format
  pub sign : μ.sign ≡ ν.sign
  pub half : μ.half ≡ ν.half

pub record SameButHalf (μ ν : Meaning) : Type 0 where
  pub width : μ.width ≡ ν.width
  pub listed : μ.listed ≡ ν.listed
  pub relation : μ.relation ≡ ν.relation
  pub format : μ.format ≡ ν.format
  pub sign : μ.sign ≡ ν.sign
  pub page_zero : μ.page_zero ≡ ν.page_zero
  pub page_other : μ.page_other ≡ ν.page_other
