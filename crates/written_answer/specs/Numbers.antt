-- The answer about a written text as numbers, and the form that a caller's numbers ask for.
-- Assumes nothing.
use Rattle.std.specs.Prelude.{ℕ, ◌≡◌, Bool, ◌&&◌, leb, Option, None, Some}
use Rattle.std.proofs.Math.Option as the
use Rattle.format.specs.Header.{Form}
use Rattle.format.specs.Lists.{pick}
use Rattle.header.specs.Told.{form_of}
use Rattle.header.specs.declared.Form as code
use Rattle.header.specs.declared.Width.{Width}
use Rattle.written_answer.specs.Answer.{Answer, bytes, refusal}
use Rattle.written_answer.specs.declared.WrittenNumbers.{WrittenNumbers}

abbrev pub written_numbers : Answer → WrittenNumbers
written_numbers (refusal n p) = record { refusal = n; bytes = 0 }
written_numbers (bytes n) = record { refusal = 0; bytes = n }

-- an address has 2, 3 or 4 bytes
unfoldable pub is_width : ℕ → Bool
is_width w = leb 2 w && leb w 4

-- an X form
abbrev pub form_for : (big : Bool) (width : ℕ) → Form
form_for b w = record { radix = 16; big = b; address_length = w }

-- the code's form of this order and width
abbrev pub x_form : Bool → Width → code.Form
x_form b w = record { radix = 16; big = b; width = w }

-- the form that the code made, if it made one
abbrev pub formed : Option code.Form → the.Option Form
formed (Some f) = the.some (form_of f)
formed None = the.none

-- it makes one exactly of the three widths
pub record FormIs (big : Bool) (width : ℕ) (r : Option code.Form) : Type 0 where
  pub is : formed r ≡ pick (is_width width) (the.some (form_for big width)) the.none
