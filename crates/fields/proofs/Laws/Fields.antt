-- A word and blanks, and letters that are due: one law for each return, in the words of what its steps leave.
-- Assumes nothing.
use Prim.Native.Nat.{ℕ, ◌+◌, ◌<◌, ◌≤◌}
use mathlib.Core.Path.{◌≡◌, refl, sym, ◌∙◌}
use mathlib.Core.Bool.{Bool, true, false, false≢true, ◌&&◌}
use mathlib.Core.List.{List}
use native.Mathlib.Omega.{arith}
use lib.ListN.{length, get_or}
use lib.Dec.{eqb}
use borrow.Author.Rules.{rules}
use borrow.Author.Tests.{eq-eqb, ne_eqb, eqb-true}
use Rattle.format.specs.Bytes.{is_blank}
use Rattle.format.specs.Got.{is, isnt}
use Rattle.format.specs.Number.{past, behind, word}
use Rattle.format.specs.Entries.{lead}
use Rattle.scan.proofs.Laws.Kinds.{one-space}
use Rattle.scan.proofs.Laws.Words.{Words, word_end}
use Rattle.numbers.proofs.Laws.Numbers.{space-no, space-is}
use Rattle.fields.specs.Due.{Due}

-- words, by the place behind them
module _ (w s : List ℕ) (at : ℕ) {a : ℕ} (e : a ≡ behind w s at) where
  pub word-no : a ≡ at → word w s at ≡ isnt 4 at
  unfolding word
  word-no h = rw (← e, eq-eqb a at h)

  pub word-is : (a ≡ at → ⊥) → word w s at ≡ is tt a
  unfolding word
  word-is h = rw (← e, ne_eqb a at h)

  pub lead-1 : a ≡ at → isnt 4 at ≡ lead w s at
  unfolding lead
  lead-1 h = rw (word-no h)

  module _ (h : a ≡ at → ⊥) {b : ℕ} (f : b ≡ past is_blank s a) where
    pub lead-2 : b ≡ a → isnt 4 a ≡ lead w s at
    unfolding lead
    lead-2 g = rw (word-is h, space-no s a f g)

    pub lead-3 : (b ≡ a → ⊥) → is tt b ≡ lead w s at
    unfolding lead
    lead-3 g = rw (word-is h, space-is s a f g)

pub ruleset leads = (rules, lead-1, lead-2, lead-3)

-- a word, one space, and no blank behind it
pub one-lead : (s : List ℕ) (at : ℕ) → at + 2 ≤ length s → get_or s at 0 ≡ 32 → 32 < get_or s (at + 1) 0
    → {w : List ℕ} {from i : ℕ} → Words w s from i at → length w ≤ i → 0 < i → lead w s from ≡ is tt (at + 1)
one-lead s at h e k {w} {from} o l m = sym (lead-3 w s from (word_end o l) (λ q. omega (arith, o.place)) (one-space s at h e k) (λ q. omega arith))

-- where the answer is yes, the byte is the one that is due, and it was yes before
module _ {b d : ℕ} {before r : Bool} (w : Due b d before r) (z : r ≡ true) where
  both : (t : Bool) → eqb b d ≡ t → (t && before) ≡ true → (b ≡ d) × (before ≡ true)
  both true f g = (eqb-true b d f, g)
  both false f g = absurd (false≢true g)

  pub due-here : b ≡ d
  due-here = (both (eqb b d) refl (sym w.answer ∙ z)).0

  pub due-before : before ≡ true
  due-before = (both (eqb b d) refl (sym w.answer ∙ z)).1
