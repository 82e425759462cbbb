-- A form out of its numbers.
-- Assumes nothing.
use Rattle.std.specs.Prelude.{ℕ, Bool, eqb}
use Rattle.format.specs.Lists.{pick}
use Rattle.header.specs.declared.Form.{Form}
use Rattle.header.specs.declared.Width.{Width}
use Rattle.header.specs.declared.Width.TheVariants.{Two, Three, Four}

-- the address length out of its number
unfoldable pub width_of : ℕ → Width
width_of n = pick (eqb n 2) Two (pick (eqb n 3) Three Four)

-- a form out of its numbers
abbrev pub form_from : ℕ → Bool → ℕ → Form
form_from radix big n = record { radix = radix; big = big; width = width_of n }
