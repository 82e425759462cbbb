-- Whether a line is looked at as a T line: one law for each return.
-- Assumes nothing.
use Prim.Native.Nat.{ℕ, ◌-◌, ◌<◌, ◌≤◌}
use mathlib.Core.Path.{◌≡◌, refl}
use mathlib.Core.Bool.{Bool, true, false, ◌||◌}
use mathlib.Core.List.{List}
use native.Mathlib.Omega.{arith}
use native.Mathlib.Nat.{le_of_lt}
use lib.ListN.{length, take, drop, get_or, drop_of_length-le}
use lib.Seq.{take-nil}
use lib.Dec.{eqb}
use borrow.Author.Rules.{rules}
use Rattle.laws.specs.Places.{line_at}
use Rattle.text_lines.specs.Lines.{LineIs}
use Rattle.text_lines.specs.declared.LineAt.{LineAt}

-- `by_pair`
module _ (paired : Bool) (s : List ℕ) where
  pub by-1 : paired ≡ true → true ≡ (paired || eqb (get_or s 0 0) 84)
  by-1 h = rw h

  pub by_2 : paired ≡ false → {b : ℕ} → b ≡ get_or s 0 0 → eqb b 84 ≡ (paired || eqb (get_or s 0 0) 84)
  by_2 h e = rw (h, e)

pub ruleset by_pair = (rules, by-1, by_2)

-- `pair_due`
or-false : (b : Bool) → b ≡ (b || false)
or-false true = refl
or-false false = refl

module _ (paired : Bool) (text : List ℕ) (p : ℕ) where
  pub due-past : length text < p → paired ≡ (paired || eqb (get_or (line_at text p).bytes 0 0) 84)
  unfolding line_at
  due-past h = rw (drop_of_length-le text (le_of_lt h), take-nil) (or-false paired)

  pub due-line : {l : LineAt} → LineIs text p l → {b : Bool} → b ≡ (paired || eqb (get_or (take (l.end - p) (drop p text)) 0 0) 84) → b ≡ (paired || eqb (get_or (line_at text p).bytes 0 0) 84)
  unfolding line_at
  due-line w e = rw (← w.ends_at) e

pub end-in : (text : List ℕ) {p : ℕ} {l : LineAt} → LineIs text p l → p ≤ length text → l.end ≤ length text
end-in text w h = omega (arith, w.width, w.inside h)

pub ruleset dues = (rules, end-in, due-past, due-line)
