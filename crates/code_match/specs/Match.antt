-- Code that matches a pattern of values and masks.
-- Assumes nothing.
use Rattle.std.specs.Prelude.{ℕ, zero, suc, Bool, List, eqb, get_or}
use Rattle.std.specs.Int.Bits.{bit_and}
use Rattle.format.specs.Lists.{pick}

-- a byte has the value's bits wherever the mask has a one
unfoldable pub agrees : (value mask byte : ℕ) → Bool
agrees v m b = eqb (bit_and b m) (bit_and v m)

-- the first of n positions from i on at which code does not, or the one behind them; past its end a pattern knows nothing
unfoldable pub mismatch_from : (values masks code : List ℕ) (i n : ℕ) → ℕ
mismatch_from vs ms cs i zero = i
mismatch_from vs ms cs i (suc n) = let rest = mismatch_from vs ms cs (suc i) n in pick (agrees (get_or vs i 0) (get_or ms i 0) (get_or cs i 0)) rest i
