-- Two or three bytes joined; where one of them is over 255, a number that no bytes make.
-- Assumes nothing.
use Rattle.std.specs.Prelude.{ℕ, Bool, ltb}
use Rattle.format.specs.Lists.{pick}
use Rattle.joined_bytes.specs.Steps.{join_step}

unfoldable pub two_joined : Bool → ℕ → ℕ → ℕ
two_joined big x y = pick (ltb 255 x) 65536 (pick (ltb 255 y) 65536 (join_step big x 256 y))

unfoldable pub three_joined : Bool → ℕ → ℕ → ℕ → ℕ
three_joined big a b c = pick (ltb 255 a) 16777216 (pick (ltb 255 b) 16777216 (pick (ltb 255 c) 16777216 (join_step big (join_step big a 256 b) 65536 c)))
