-- The laws of the words that ask for help.
-- Assumes nothing.
use Prim.Native.Nat.{ℕ}
use mathlib.Core.Path.{◌≡◌, refl, ap, sym, ◌∙◌}
use mathlib.Core.Bool.{Bool, true, false, ◌||◌}
use mathlib.Core.List.{List}
use borrow.Author.Rules.{rules}
use Rattle.difference.specs.Module.{same_numbers}
use Rattle.help_word.specs.Help.{short, long}

pub asked-short : (w : List ℕ) {t : Bool} → t ≡ same_numbers w short → t ≡ true → true ≡ (same_numbers w short || same_numbers w long)
asked-short w e f = ap (λ (x : Bool). x || same_numbers w long) (sym f ∙ e)

pub asked-long : (w : List ℕ) {t r : Bool} → t ≡ same_numbers w short → t ≡ false → r ≡ same_numbers w long → r ≡ (same_numbers w short || same_numbers w long)
asked-long w e f g = g ∙ ap (λ (x : Bool). x || same_numbers w long) (sym f ∙ e)

pub ruleset asking = (rules, asked-short, asked-long)
