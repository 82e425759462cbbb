-- Shifts of numbers of 64 bits.
-- Assumes nothing.
use Rattle.std.specs.Prelude.{ℕ, ◌*◌, ◌/◌, ◌%◌, ◌^◌}

-- x shifted left or right, the count modulo 64
unfoldable pub shifted_left : ℕ → ℕ → ℕ
shifted_left x k = x * 2 ^ (k % 64) % 2 ^ 64

unfoldable pub shifted_right : ℕ → ℕ → ℕ
shifted_right x k = x / 2 ^ (k % 64)
