-- The H, M, A and S lines, written from their fields as the manual shows them.
-- Assumes nothing.
use Rattle.std.specs.Prelude.{ℕ, ◌*◌, ◌≤◌, Bool, false, true, List, [], ◌++◌, ◌∷◌, length}
use Rattle.format.specs.Bytes.{is_name_byte}
use Rattle.format.specs.Text.{bytes_of as text}
use Rattle.format.specs.Entries.{A, Def, Key, Ref, S, flags, size, spelled}
use Rattle.manual.specs.Each.{Passes}
use Rattle.manual.specs.Specifier.{Specifier, address_bytes, base}
use Rattle.manual.specs.Digits.{digits_of}
use Rattle.manual.specs.Words.{words}

-- a name is one or more bytes, none a blank, CR or LF
pub record IsName (w : List ℕ) : Type 0 where
  pub some : 1 ≤ length w
  pub each : Passes is_name_byte w

-- a number in as few digits as there can be
abbrev pub plain : Specifier → ℕ → List ℕ
plain f n = digits_of (base f.radix) 1 n

-- H aa areas gg global symbols
unfoldable pub write_header : Specifier → (areas symbols : ℕ) → List ℕ
write_header f a g = words ((72 ∷ []) ∷ plain f a ∷ text "areas" ∷ plain f g ∷ text "global" ∷ text "symbols" ∷ [])

-- M name
unfoldable pub write_module : List ℕ → List ℕ
write_module name = words ((77 ∷ []) ∷ name ∷ [])

-- A label size ss flags ff
unfoldable pub write_area : Specifier → (label : List ℕ) (size flags : ℕ) → List ℕ
write_area f label z g = words (spelled A ∷ label ∷ spelled size ∷ plain f z ∷ spelled flags ∷ plain f g ∷ [])

-- a symbol's value has two digits for each byte of an address: nnnn, nnnnnn or nnnnnnnn; more where the radix needs more
abbrev pub value : Specifier → ℕ → List ℕ
value f n = digits_of (base f.radix) (2 * address_bytes f.addressing) n

-- the word of a symbol: Ref or Def
abbrev pub kind : Bool → Key
kind true = Ref
kind false = Def

-- S name Refnnnn, S name Defnnnn
unfoldable pub write_symbol : Specifier → (name : List ℕ) (ref : Bool) (value : ℕ) → List ℕ
write_symbol f name ref v = words (spelled S ∷ name ∷ (spelled (kind ref) ++ value f v) ∷ [])
