-- The corrected target by a class that is given, step by step as the code goes; at the mode's own class it is the definition's.
-- Assumes nothing.
use Rattle.std.specs.Prelude.{ℕ, Bool, not, List}
use Rattle.format.specs.Lists.{pick}
use Rattle.format.specs.Mode.{Class, bit}
use Rattle.format.specs.Target.{closing, in_block, near, number_bit, signed_start, wrap_add, wrap_sub}
use Rattle.format.specs.Corrected.{corrected_high, corrected_start}

-- t counted from behind the address, or what it is in its block
unfoldable pub ahead_of : Class → (m t addr : ℕ) → ℕ
ahead_of c m t addr = pick (bit 2 m) (wrap_add t (wrap_add addr (pick (bit 0 m) 1 2))) (in_block c t addr)

unfoldable pub leads_to : Class → Bool → (m n : ℕ) → List ℕ → (addr : ℕ) → ℕ
leads_to c big m n bs addr =
    let signed = not (bit 4 m) in
    let t = wrap_sub (signed_start signed (corrected_high c) (corrected_start c big bs)) (signed_start signed (number_bit c (bit 8 m)) n) in
    near (closing c) (ahead_of c m t addr) addr
