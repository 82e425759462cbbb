-- The lines of group one as they are written, each with its LF.
-- Assumes nothing.
use Rattle.std.specs.Prelude.{ℕ, Bool, false, true, List, [], ◌++◌, ◌∷◌, Option, None, Some}
use Rattle.std.proofs.Math.Option as the
use Rattle.manual.specs.Digits.{digits_of}
use Rattle.manual.specs.Specifier.{H, Specifier, X, bits16}
use Rattle.written.specs.Writing.{area_text, line_ended, symbol_text}

-- a specifier of radix X: neither the order nor the address length matters to these lines
abbrev pub hex_specifier : Specifier
hex_specifier = record { radix = X; order = H; addressing = bits16 }

-- addr, if it is given
abbrev pub given_addr : Option ℕ → the.Option ℕ
given_addr (Some n) = the.some n
given_addr None = the.none

abbrev pub addr_part : Option ℕ → List ℕ
addr_part (Some n) = 32 ∷ 97 ∷ 100 ∷ 100 ∷ 114 ∷ 32 ∷ digits_of 16 1 n
addr_part None = []

abbrev pub kind_part : Bool → List ℕ
kind_part true = 32 ∷ 82 ∷ 101 ∷ 102 ∷ []
kind_part false = 32 ∷ 68 ∷ 101 ∷ 102 ∷ []

-- an A line, and an S line
unfoldable pub area_out : (name : List ℕ) (size flags : ℕ) → the.Option ℕ → List ℕ
area_out name z g a = line_ended (area_text hex_specifier name z g a)

unfoldable pub symbol_out : (name : List ℕ) (ref : Bool) (value : ℕ) → List ℕ
symbol_out name r v = line_ended (symbol_text hex_specifier name r v)
