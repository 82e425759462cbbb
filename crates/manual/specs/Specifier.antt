-- The format specifier [XDQ][HL][234] that leads an object module.
-- Assumes nothing.
use Rattle.std.specs.Prelude.{ℕ, Bool, false, true, List, [], ◌∷◌}
use Rattle.format.specs.Header.{Form}

-- hexadecimal, decimal, octal
pub data Radix : Type 0 where
  X D Q : Radix

-- most or least significant byte first
pub data Order : Type 0 where
  H L : Order

-- 16, 24 or 32 bits
pub data Addressing : Type 0 where
  bits16 bits24 bits32 : Addressing

pub record Specifier : Type 0 where
  pub radix : Radix
  pub order : Order
  pub addressing : Addressing

abbrev pub base : Radix → ℕ
base X = 16
base D = 10
base Q = 8

abbrev pub is_big : Order → Bool
is_big H = true
is_big L = false

-- how many bytes an address has
abbrev pub address_bytes : Addressing → ℕ
address_bytes bits16 = 2
address_bytes bits24 = 3
address_bytes bits32 = 4

-- the form that the definition's readers go by
abbrev pub form_of : Specifier → Form
form_of f = record { radix = base f.radix; big = is_big f.order; address_length = address_bytes f.addressing }

abbrev pub radix_letter : Radix → ℕ
radix_letter X = 88
radix_letter D = 68
radix_letter Q = 81

abbrev pub order_letter : Order → ℕ
order_letter H = 72
order_letter L = 76

abbrev pub addressing_letter : Addressing → ℕ
addressing_letter bits16 = 50
addressing_letter bits24 = 51
addressing_letter bits32 = 52

-- the specifier's three letters
unfoldable pub write_specifier : Specifier → List ℕ
write_specifier f = radix_letter f.radix ∷ order_letter f.order ∷ addressing_letter f.addressing ∷ []
