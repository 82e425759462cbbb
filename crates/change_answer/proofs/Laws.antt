-- The laws of a comparison's answer as numbers, and of the room of its list.
-- Assumes nothing.
use Prim.Native.Nat.{ℕ, ◌*◌, ◌/◌}
use mathlib.Core.Path.{◌≡◌, refl, sym}
use mathlib.Core.Bool.{Bool, true, false}
use native.Mathlib.Omega.{arith}
use lib.Dec.{leb}
use borrow.Author.Rules.{rules}
use borrow.Author.Tests.{le-leb, lt-leb, leb-true, leb-false}
use Rattle.difference.specs.Rows.{change_columns}
use Rattle.std.specs.Prelude.{Ok, Err}
use Rattle.change_answer.specs.Answer.{Told, refused_of, side_of, told_of}
use Rattle.change_answer.specs.Numbers.{changed_numbers}
use Rattle.change_answer.specs.declared.Whose.{Whose}
use Rattle.change_answer.specs.declared.Whose.TheVariants.{Both, Newer, Older}

-- `changed_numbers`
with-side : (w : Whose) (n p : ℕ) → record { refusal = n; side = side_of w; place = p; rows = 0 } ≡ changed_numbers (refused_of w n p)
with-side Both n p = refl
with-side Older n p = refl
with-side Newer n p = refl

module _ {a : Told} where
  pub refused-numbers : {w : Whose} {n p : ℕ} → a ≡ Err (record { whose = w; number = n; place = p }) → {k : ℕ} → k ≡ side_of w → record { refusal = n; side = k; place = p; rows = 0 } ≡ changed_numbers (told_of a)
  refused-numbers {w} {n} {p} e f = rw (e, f) (with-side w n p)

  pub rows-numbers : {k : ℕ} → a ≡ Ok k → record { refusal = 0; side = 0; place = 0; rows = k } ≡ changed_numbers (told_of a)
  rows-numbers e = rw e refl

pub ruleset numbers = (rules, refused-numbers, rows-numbers)

-- `has_room`
pub room-is : (n k : ℕ) → leb k (n / 8) ≡ leb (change_columns * k) n
room-is n k = step (leb k (n / 8)) refl
  where
    step : (b : Bool) → leb k (n / 8) ≡ b → b ≡ leb (change_columns * k) n
    step true e = sym (le-leb (8 * k) n (omega (arith, leb-true k (n / 8) e)))
    step false e = sym (lt-leb (8 * k) n (omega (arith, leb-false k (n / 8) e)))

pub ruleset room = (rules, room-is)
