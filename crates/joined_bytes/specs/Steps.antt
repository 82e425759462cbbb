-- A step of the code on the way to an answer: bytes joined so far.
-- Assumes nothing.
use Rattle.std.specs.Prelude.{ℕ, ◌+◌, ◌*◌, Bool, true, false, List}
use Rattle.format.specs.Number.{horner, little}

-- bytes joined behind a value; scale is the worth of the next, where the lowest is first
unfoldable pub join_on : Bool → (v scale : ℕ) → List ℕ → ℕ
join_on true v scale bs = horner 256 v bs
join_on false v scale bs = v + scale * little bs

-- one byte more
unfoldable pub join_step : Bool → (v scale b : ℕ) → ℕ
join_step true v scale b = v * 256 + b
join_step false v scale b = v + scale * b
