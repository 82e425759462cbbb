-- Numbers in hex, as the listing writes them. Assumes nothing.
use Rattle.std.specs.Prelude.{ℕ, zero, suc, ◌+◌, ◌/◌, ◌%◌, ◌^◌, cond, List, [], ◌∷◌, ◌++◌, ltb}

-- the ASCII code of a digit below 16: `0` to `9`, then `A` to `F`
abbrev pub capital : ℕ → ℕ
capital d = cond (ltb d 10) (48 + d) (55 + d)

-- the last k digits of n, the most significant first
abbrev pub hex_digits : ℕ → ℕ → List ℕ
hex_digits zero n = []
hex_digits (suc k) n = capital (n / 16 ^ k % 16) ∷ hex_digits k n

-- a position's value and mask, with a blank in front
abbrev pub value_and_mask : ℕ → ℕ → List ℕ
value_and_mask v m = 32 ∷ (hex_digits 2 v ++ (47 ∷ hex_digits 2 m))

-- a byte that is not shown as it is: a backslash, an x and two digits
abbrev pub escaped : ℕ → List ℕ
escaped b = 92 ∷ (120 ∷ hex_digits 2 b)
