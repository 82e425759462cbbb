-- Capital digits of radix 16: what one byte and what two are worth.
-- Assumes nothing.
use Rattle.std.specs.Prelude.{◌≡◌, ℕ, ◌+◌, ◌*◌, ◌<◌, ◌≤◌, Bool, true, false, nat_le, nat_lt}
use Rattle.format.specs.Lists.{pick}
use Rattle.format.specs.Bytes.{worth}

-- 0 to 9 or A to F
unfoldable pub is_capital : ℕ → Bool
is_capital b = pick (nat_le b 70) (nat_lt (worth b) 16) false

-- what two capital digits of radix 16 are worth; 256 where one of the bytes is none
unfoldable pub capitals : (a b : ℕ) → ℕ
capitals a b = pick (is_capital a) (pick (is_capital b) (worth a * 16 + worth b) 256) 256

-- a capital digit of radix 16, exactly where the answer is below 16
pub record Hex (b d : ℕ) : Type 0 where
  pub digit : d < 16 → d ≡ worth b
  pub capital : d < 16 → is_capital b ≡ true
  pub other : 16 ≤ d → is_capital b ≡ false
