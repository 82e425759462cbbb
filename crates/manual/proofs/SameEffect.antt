-- A bit that nothing looks at has no effect; and every mode with a clear bit has a partner that differs in that bit alone.
-- Assumes nothing.
use Prim.Native.Nat.{ℕ}
use mathlib.Core.Path.{◌≡◌, refl}
use Rattle.format.specs.Mode.{Class, Addr11, Addr16, Addr19, Addr24, Byte, Other, bit, class_of, gives, gives_of, on_site, touched}
use Rattle.format.specs.ModeStep.{step_keeps_of, step_masks, step_number, step_values}
use Rattle.format.specs.Fixups.{reference}
use Rattle.format.specs.Target.{target_of}
use Rattle.manual.specs.SameEffect.{SameGives, SameReference, SameStep, SameTarget}

-- the class goes by bits 0, 3, 7 and 8
pub same_class : (m m' : ℕ) → bit 0 m ≡ bit 0 m' → bit 3 m ≡ bit 3 m' → bit 7 m ≡ bit 7 m' → bit 8 m ≡ bit 8 m' → class_of m ≡ class_of m'
unfolding class_of
same_class m m' a b c d = rw (a, b, c, d)

-- the step goes by the class and bit 8
pub same_step : (m m' : ℕ) → class_of m ≡ class_of m' → bit 8 m ≡ bit 8 m' → SameStep m m'
unfolding touched on_site step_values step_masks step_keeps_of step_number
same_step m m' c d = record {
  class = c;
  touches = rw (c, d);
  size = rw c;
  values = λ vs. rw (c, d);
  masks = λ ms. rw (c, d);
  keeps = λ ks. rw (c, d);
  number = λ big vs. rw c;
}

-- giving a fixup goes by the class and bits 2 and 10
pub same_gives : (m m' : ℕ) → class_of m ≡ class_of m' → bit 2 m ≡ bit 2 m' → bit 10 m ≡ bit 10 m' → SameGives m m'
unfolding gives
same_gives m m' c d e = rw c (go (class_of m'))
  where
    go : (k : Class) → gives_of k m ≡ gives_of k m'
    go Addr19 = rw e
    go Addr11 = rw e
    go Addr24 = rw e
    go Addr16 = rw e
    go Byte = d
    go Other = refl

-- the reference goes by bit 1
pub same-reference : (m m' : ℕ) → bit 1 m ≡ bit 1 m' → SameReference m m'
unfolding reference
same-reference m m' e t place entry index = rw e

-- the target goes by the class and bits 0, 2, 4 and 8
pub same_target : (m m' : ℕ) → class_of m ≡ class_of m' → bit 0 m ≡ bit 0 m' → bit 2 m ≡ bit 2 m' → bit 4 m ≡ bit 4 m' → bit 8 m ≡ bit 8 m' → SameTarget m m'
unfolding target_of
same_target m m' c a b d e big n bs addr = rw (c, a, b, d, e)
