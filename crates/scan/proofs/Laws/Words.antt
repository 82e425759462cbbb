-- A fixed word of a line.
-- Assumes nothing.
use Prim.Native.Nat.{ℕ, ◌+◌, ◌<◌, ◌≤◌}
use mathlib.Core.Path.{◌≡◌, refl, ◌∙◌}
use mathlib.Core.List.{List}
use native.Mathlib.Numerals.{add-one}
use native.Mathlib.Omega.{arith}
use lib.ListN.{length, get_or, drop, drop_of_length-le}
use lib.Seq.{drop-cons}
use borrow.Author.Rules.{rules}
use borrow.Author.Tests.{eq-eqb, ne_eqb}
use Rattle.format.specs.Lists.{pick, starts}
use Rattle.format.specs.Number.{behind}

-- `past_word`: i bytes of the word stand before p
pub record Words (w s : List ℕ) (at i p : ℕ) : Type 0 where
  pub within : i ≤ length w
  pub place : p ≡ at + i
  pub same : behind w s at ≡ pick (starts (drop i w) (drop p s)) (at + length w) at

pub word-start : (w s : List ℕ) (at : ℕ) → Words w s at 0 at
unfolding behind
word-start w s at = record { within = omega arith; place = omega arith; same = refl }

module _ {w s : List ℕ} {at i p : ℕ} (k : Words w s at i p) where
  pub word_end : length w ≤ i → p ≡ behind w s at
  unfolding starts
  word_end h = rw (k.same, drop_of_length-le w h) (omega (arith, k.within, k.place))

  module _ (h : i < length w) where
    pub word-short : length s ≤ p → at ≡ behind w s at
    unfolding starts
    word-short l = rw (k.same, drop-cons w i 0 h, drop_of_length-le s l)

    module _ (l : p < length s) where
      pub word-other : (get_or w i 0 ≡ get_or s p 0 → ⊥) → at ≡ behind w s at
      unfolding starts
      word-other e = rw (k.same, drop-cons w i 0 h, drop-cons s p 0 l, ne_eqb _ _ e)

      pub word_more : get_or w i 0 ≡ get_or s p 0 → Words w s at (i + 1) (p + 1)
      unfolding starts
      word_more e = record {
        within = omega arith;
        place = omega (arith, k.place);
        same = k.same ∙ rw (drop-cons w i 0 h, drop-cons s p 0 l, eq-eqb _ _ e, add-one, add-one);
      }

pub ruleset wording = (rules, word-start, word_end, word-short, word-other, word_more)
