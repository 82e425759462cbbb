-- The marks of an empty pair in the usual form.
-- Assumes nothing.
use Rattle.std.specs.Prelude.{ℕ, ◌+◌, Bool, true, false, ◌&&◌, List, eqb, leb, length, get_or}
use Rattle.format.specs.Lists.{pick}

-- LF behind ten bytes at a place, and again behind thirteen more
unfoldable pub ends_in_place : List ℕ → ℕ → Bool
ends_in_place s p = pick (leb (p + 25) (length s)) (eqb (get_or s (p + 10) 0) 10 && eqb (get_or s (p + 24) 0) 10) false

-- the eight bytes of `R 00 00 `, of which the last is compared first
unfoldable pub zero_lead : (s t u v w x y z : ℕ) → Bool
zero_lead s t u v w x y z = eqb z 32 && (eqb y 48 && (eqb x 48 && (eqb w 32 && (eqb v 48 && (eqb u 48 && (eqb t 32 && (eqb s 82 && true)))))))
