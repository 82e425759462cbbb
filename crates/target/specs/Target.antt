-- The target by a class that is given, step by step as the code goes; at the mode's own class it is the definition's target.
-- Assumes nothing.
use Rattle.std.specs.Prelude.{ℕ, Bool, not, List, length}
use Rattle.format.specs.Lists.{pick}
use Rattle.format.specs.Mode.{Class, bit}
use Rattle.format.specs.Outcome.{Outcome, fine, refused}
use Rattle.format.specs.Target.{closing, high, in_block, near, number_bit, signed_number, signed_start, start_of, wrap_add, wrap_sub}
use Rattle.target_asked.specs.Asked.{allowed}

-- what is left of t once the address is taken off, or what it is in its block
unfoldable pub relative_of : Class → (m t addr : ℕ) → ℕ
relative_of c m t addr = pick (bit 2 m) (wrap_sub t (wrap_add addr (pick (bit 0 m) 1 2))) (in_block c t addr)

unfoldable pub reached_by : Class → Bool → (m n : ℕ) → List ℕ → (addr : ℕ) → ℕ
reached_by c big m n bs addr =
    let signed = not (bit 4 m) in
    let t = wrap_sub (signed_start signed (high c) (start_of c big bs)) (signed_number signed (number_bit c (bit 8 m)) n) in
    near (closing c) (relative_of c m t addr) addr

-- 14, or the target
unfoldable pub target_by : Class → Bool → (m n : ℕ) → List ℕ → (addr : ℕ) → Outcome ℕ
target_by c big m n bs addr = pick (allowed c m n (length bs)) (fine (reached_by c big m n bs addr)) (refused 14 0)
