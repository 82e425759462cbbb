-- Names as they are shown.
-- Assumes nothing.
use Rattle.std.specs.Prelude.{ℕ, Bool, cond, ◌||◌, List, [], ◌∷◌, ◌++◌, ltb, eqb}
use Rattle.hexadecimal.specs.Hex.{escaped}

-- below 32, and 127
abbrev pub control : ℕ → Bool
control b = ltb b 32 || eqb b 127

-- a control byte is escaped, any other stands as it is
unfoldable pub shown_byte : ℕ → List ℕ
shown_byte b = cond (control b) (escaped b) (b ∷ [])

unfoldable pub shown : List ℕ → List ℕ
shown [] = []
shown (b ∷ bytes) = shown_byte b ++ shown bytes
