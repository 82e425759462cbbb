-- Kinds of bytes: blank, CR or LF, a name's bytes, digits of a radix.
-- Assumes nothing.
use Rattle.std.specs.Prelude.{ℕ, ◌-◌, Bool, not, ◌||◌, eqb, leb, ltb}
use Rattle.format.specs.Lists.{pick}

-- space or tab
unfoldable pub is_blank : ℕ → Bool
is_blank b = eqb b 32 || eqb b 9

-- CR or LF
unfoldable pub is_cr_or_lf : ℕ → Bool
is_cr_or_lf b = eqb b 13 || eqb b 10

-- blank, CR or LF
unfoldable pub is_white : ℕ → Bool
is_white b = is_blank b || is_cr_or_lf b

-- what a name is made of
unfoldable pub is_name_byte : ℕ → Bool
is_name_byte b = not (is_white b)

-- the worth of 0 to 9, A to F and a to f; 255 for any other byte
unfoldable pub worth : ℕ → ℕ
worth b =
    pick (ltb b 48) 255
    (pick (leb b 57) (b - 48)
    (pick (ltb b 65) 255
    (pick (leb b 70) (b - 55)
    (pick (ltb b 97) 255
    (pick (leb b 102) (b - 87) 255)))))

-- a digit of a radix
unfoldable pub is_digit : ℕ → ℕ → Bool
is_digit radix b = ltb (worth b) radix
