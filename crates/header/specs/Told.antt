-- The code's answer about the header, as the definition's one.
-- Assumes nothing.
use Rattle.std.specs.Prelude.{ℕ, suc}
use Rattle.std.proofs.Math.Option.{Option, none, some}
use Rattle.format.specs.Header as the
use Rattle.header.specs.declared.Width.{Width}
use Rattle.header.specs.declared.Width.TheVariants.{Two, Three, Four}
use Rattle.header.specs.declared.Form.{Form}
use Rattle.header.specs.declared.Head.{Head}
use Rattle.header.specs.declared.Head.TheVariants.{Found, Missing}

-- an address has so many bytes behind its first
abbrev pub more_of : Width → ℕ
more_of Two = 1
more_of Three = 2
more_of Four = 3

abbrev pub form_of : Form → the.Form
form_of f = record { radix = f.radix; big = f.big; address_length = suc (more_of f.width) }

abbrev pub told_head : Head → Option the.Head
told_head (Found f n) = some (record { form = form_of f; next = n })
told_head Missing = none
