-- The T, R and P lines, written from their fields as the manual shows them.
-- Assumes nothing.
use Rattle.std.specs.Prelude.{ℕ, ◌%◌, ◌+◌, ◌/◌, ◌<◌, List, [], map, ◌++◌, ◌∷◌, ltb}
use Rattle.format.specs.Lists.{flat, pick}
use Rattle.format.specs.Entries.{R, T, spelled}
use Rattle.format.specs.Pairs.{Fragment}
use Rattle.manual.specs.Specifier.{D, Q, Radix, Specifier, X, address_bytes, base}
use Rattle.manual.specs.Digits.{bytes_of, digits_of}
use Rattle.manual.specs.Words.{words}

-- how many digits a byte is written in: those of FF, 255 and 377
abbrev pub byte_width : Radix → ℕ
byte_width X = 2
byte_width D = 3
byte_width Q = 3

abbrev pub byte_text : Radix → ℕ → List ℕ
byte_text r b = digits_of (base r) (byte_width r) b

-- T xx xx nn nn ..: the address, of 2, 3 or 4 bytes, and the content
unfoldable pub write_content : Specifier → (address : ℕ) (content : List ℕ) → List ℕ
write_content f address content =
    words (spelled T ∷ map (byte_text f.radix) (bytes_of f.order (address_bytes f.addressing) address ++ content))

-- an index has two bytes
abbrev pub index_bytes : Specifier → ℕ → List ℕ
index_bytes f i = bytes_of f.order 2 i

-- a mode in one byte, as the manual has it
abbrev pub one_byte_of : ℕ → List ℕ
one_byte_of m = m ∷ []

-- a mode in two bytes, as the later edition has it: F0 and the high bits, then the low eight
abbrev pub escaped : ℕ → List ℕ
escaped m = (240 + m / 256) ∷ m % 256 ∷ []

-- one byte where that will do, else two
abbrev pub shortest : ℕ → List ℕ
shortest m = pick (ltb m 240) (one_byte_of m) (escaped m)

-- n1 n2 xx xx: mode, entry, index
abbrev pub fragment_bytes : Specifier → (ℕ → List ℕ) → Fragment → List ℕ
fragment_bytes f mode_bytes g = mode_bytes g.mode ++ g.entry ∷ index_bytes f g.index

-- 0 0 nn nn n1 n2 xx xx ..: index 0 in bytes of a width of its own, the area's index, the fragments
abbrev pub relocation_words : Specifier → (width : ℕ) → (ℕ → List ℕ) → (area : ℕ) → List Fragment → List (List ℕ)
relocation_words f width mode_bytes area fragments =
    map (digits_of (base f.radix) width) (index_bytes f 0) ++ map (byte_text f.radix) (index_bytes f area ++ flat (fragment_bytes f mode_bytes) fragments)

-- the manual shows each zero as one digit, assemblers write two or three: the width says how many at least
unfoldable pub write_relocation : Specifier → (width : ℕ) → (ℕ → List ℕ) → (area : ℕ) → List Fragment → List ℕ
write_relocation f width mode_bytes area fragments = words (spelled R ∷ relocation_words f width mode_bytes area fragments)

-- the P line has the R line's form
unfoldable pub write_page : Specifier → (width : ℕ) → (ℕ → List ℕ) → (area : ℕ) → List Fragment → List ℕ
write_page f width mode_bytes area fragments = words ((80 ∷ []) ∷ relocation_words f width mode_bytes area fragments)

-- a fragment that can be written: its mode below a bound, a byte and two bytes
pub record Writable (bound : ℕ) (g : Fragment) : Type 0 where
  pub mode-below : g.mode < bound
  pub entry-below : g.entry < 256
  pub index_below : g.index < 65536
