-- The laws of a form out of its numbers.
-- Assumes nothing.
use Prim.Native.Nat.{ℕ}
use mathlib.Core.Path.{◌≡◌}
use mathlib.Core.Bool.{Bool}
use borrow.Author.Rules.{rules}
use borrow.Author.Tests.{eq-eqb, ne_eqb}
use Rattle.header.specs.declared.Width.{Width}
use Rattle.header.specs.declared.Width.TheVariants.{Two, Three, Four}
use Rattle.header.specs.declared.Form.{Form}
use Rattle.probe_form.specs.Forms.{width_of, form_from}

module _ (n : ℕ) where
  pub width-1 : n ≡ 2 → Two ≡ width_of n
  unfolding width_of
  width-1 h = rw (eq-eqb n 2 h)

  module _ (k : n ≡ 2 → ⊥) where
    pub width-2 : n ≡ 3 → Three ≡ width_of n
    unfolding width_of
    width-2 h = rw (ne_eqb n 2 k, eq-eqb n 3 h)

    pub width-3 : (n ≡ 3 → ⊥) → Four ≡ width_of n
    unfolding width_of
    width-3 h = rw (ne_eqb n 2 k, ne_eqb n 3 h)

pub form-is : (radix : ℕ) (big : Bool) (n : ℕ) {w : Width} → w ≡ width_of n → ◌≡◌ {A = Form} (record { radix = radix; big = big; width = w }) (form_from radix big n)
form-is radix big n e = rw e

pub ruleset forming = (rules, width-1, width-2, width-3, form-is)
