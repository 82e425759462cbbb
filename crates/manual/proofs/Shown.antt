-- Lines as the writers write them, one for each form of the manual: what is read back is what the manual shows.
-- Assumes nothing.
use Prim.Native.Nat.{ℕ}
use Prim.Native.String.{String}
use mathlib.Core.Path.{◌≡◌, refl}
use mathlib.Core.Bool.{false, true}
use mathlib.Core.List.{List, [], map, ◌∷◌}
use Rattle.format.specs.Lists.{flat}
use Rattle.format.specs.Text.{bytes_of as text}
use Rattle.manual.specs.Specifier.{D, H, L, Q, Specifier, X, bits16, bits24, bits32, write_specifier}
use Rattle.manual.specs.Digits.{bytes_of, digit, digits_of, fewest}
use Rattle.manual.specs.WrittenEntries.{write_area, write_header, write_module, write_symbol}
use Rattle.manual.specs.WrittenPairs.{escaped, one_byte_of, shortest, write_content, write_page, write_relocation}

-- a line that was written, and how it looks
pub data Line : Type 0 where
  line : List ℕ → String → Line

abbrev pub written : Line → List ℕ
written (line w s) = w

abbrev pub looked : Line → List ℕ
looked (line w s) = text s

abbrev XH2 : Specifier
XH2 = record { radix = X; order = H; addressing = bits16 }

abbrev XL3 : Specifier
XL3 = record { radix = X; order = L; addressing = bits24 }

abbrev DH4 : Specifier
DH4 = record { radix = D; order = H; addressing = bits32 }

abbrev QL2 : Specifier
QL2 = record { radix = Q; order = L; addressing = bits16 }

abbrev pub shown : List Line
shown =
    line (write_specifier XH2) "XH2"
    ∷ line (write_specifier XL3) "XL3"
    ∷ line (write_specifier DH4) "DH4"
    ∷ line (write_specifier QL2) "QL2"
    ∷ line (write_header XH2 2 26) "H 2 areas 1A global symbols"
    ∷ line (write_module (text "demo")) "M demo"
    ∷ line (write_area XH2 (text "CSEG") 2122 32) "A CSEG size 84A flags 20"
    ∷ line (write_area DH4 (text "CSEG") 2122 0) "A CSEG size 2122 flags 0"
    ∷ line (write_symbol XH2 (text "_put") true 0) "S _put Ref0000"
    ∷ line (write_symbol XL3 (text "_go") false 298) "S _go Def00012A"
    ∷ line (write_symbol DH4 (text "_go") false 298) "S _go Def00000298"
    ∷ line (write_content XH2 598 (187 ∷ 72 ∷ [])) "T 02 56 BB 48"
    ∷ line (write_content XL3 598 (187 ∷ 72 ∷ [])) "T 56 02 00 BB 48"
    ∷ line (write_content DH4 598 (187 ∷ 72 ∷ [])) "T 000 000 002 086 187 072"
    ∷ line (write_content QL2 598 (187 ∷ 72 ∷ [])) "T 126 002 273 110"
    ∷ line (write_relocation XH2 1 one_byte_of 23 (record { mode = 2; entry = 7; index = 258 } ∷ [])) "R 0 0 00 17 02 07 01 02"
    ∷ line (write_relocation XL3 2 one_byte_of 23 []) "R 00 00 17 00"
    ∷ line (write_relocation XL3 2 escaped 0 (record { mode = 1281; entry = 3; index = 258 } ∷ [])) "R 00 00 00 00 F5 01 03 02 01"
    ∷ line (write_relocation XH2 2 shortest 0 (record { mode = 239; entry = 3; index = 0 } ∷ record { mode = 240; entry = 5; index = 0 } ∷ [])) "R 00 00 00 00 EF 03 00 00 F0 F0 05 00 00"
    ∷ line (write_page XH2 1 one_byte_of 23 (record { mode = 2; entry = 7; index = 258 } ∷ [])) "P 0 0 00 17 02 07 01 02"
    ∷ []

pub as-shown : map written shown ≡ map looked shown
unfolding write_specifier write_header write_module write_area write_symbol write_content write_relocation write_page digits_of fewest digit bytes_of text flat
as-shown = refl
