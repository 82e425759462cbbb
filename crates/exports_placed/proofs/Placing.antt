-- From an answer about placed code to its numbers.
-- Assumes nothing.
use Prim.Native.Nat.{ℕ}
use mathlib.Core.Path.{◌≡◌, ap, ◌∙◌}
use mathlib.Core.List.{List}
use borrow.Author.Rules.{rules}
use Rattle.format.specs.Outcome.{fine, refused}
use Rattle.placed_rows.specs.declared.Placed.{Placed}
use Rattle.placed_rows.specs.declared.Placed.TheVariants.{Refusal, Done}
use Rattle.placed_rows.specs.Placed.{told}
use Rattle.placed_code.specs.Code.{CodeIs}
use Rattle.placed_numbers.specs.Numbers.{place_numbers}
use Rattle.placed_numbers.specs.declared.PlaceNumbers.{PlaceNumbers}
use Rattle.exports_placed.specs.Places.{PlacesNumbers}

module _ {e : Placed} {r : PlaceNumbers} where
  pub refused-numbers : {n p : ℕ} → e ≡ Refusal n p → r ≡ place_numbers (refused n p) → r ≡ place_numbers (told e)
  refused-numbers q f = rw q f

  pub done-numbers : {n : ℕ} → e ≡ Done n → r ≡ place_numbers (fine n) → r ≡ place_numbers (told e)
  done-numbers q f = rw q f

pub whole_numbers : {text areas symbols old new : List ℕ} {e : Placed} → CodeIs text areas symbols old e new → {r : PlaceNumbers} → r ≡ place_numbers (told e) → PlacesNumbers text areas symbols old r new
whole_numbers w q = record { says = q ∙ ap place_numbers w.says; held = w.held }

pub ruleset numbers = (rules, refused-numbers, done-numbers, whole_numbers)
