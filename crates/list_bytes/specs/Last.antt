-- The last byte of a list in the usual form.
-- Assumes nothing.
use Rattle.std.specs.Prelude.{ℕ, ◌+◌, List, eqb, length, get_or}
use Rattle.format.specs.Lists.{pick}
use Rattle.digits.specs.Capitals.{capitals}

-- what the last three bytes of a text are worth as one space and two capital digits of radix 16; 256 where anything else stands there
unfoldable pub last_byte : ℕ → List ℕ → ℕ → ℕ
last_byte radix s p =
    pick (eqb radix 16) (pick (eqb (length s) (p + 3)) (pick (eqb (get_or s p 0) 32) (capitals (get_or s (p + 1) 0) (get_or s (p + 2) 0)) 256) 256) 256
