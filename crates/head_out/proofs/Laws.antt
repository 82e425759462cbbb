-- The laws of the header's line.
-- Assumes nothing.
use Prim.Native.Nat.{suc, ℕ}
use mathlib.Core.Path.{◌≡◌}
use mathlib.Core.Bool.{Bool, false, true}
use mathlib.Core.List.{List, [], ◌∷◌}
use borrow.Author.Rules.{rules}
use Rattle.format.specs.Header.{Form}
use Rattle.manual.specs.Specifier.{order_letter, write_specifier}
use Rattle.written.specs.Writing.{hex_of, order_of}
use Rattle.header.specs.Told.{more_of}
use Rattle.header.specs.declared.Width.{Width}
use Rattle.header.specs.declared.Width.TheVariants.{Four, Three, Two}
use Rattle.digits_out.specs.Wrote.{Wrote}
use Rattle.head_out.specs.HeadOut.{head_out}

-- `put_head`
pub order-big : (b : Bool) → b ≡ true → 72 ≡ order_letter (order_of b)
order-big b e = rw e

pub order-little : (b : Bool) → b ≡ false → 76 ≡ order_letter (order_of b)
order-little b e = rw e

pub ruleset letters = (rules, order-big, order-little)

abbrev F : ℕ → Bool → Width → Form
F x b w = record { radix = x; big = b; address_length = suc (more_of w) }

module _ (x : ℕ) (b : Bool) {w : Width} {o : ℕ} (e : o ≡ order_letter (order_of b)) {out out₁ : List ℕ} {r : ℕ} where
  pub head-two : w ≡ Two → Wrote (88 ∷ o ∷ 50 ∷ 10 ∷ []) out 0 r out₁ → Wrote (head_out (F x b w)) out 0 r out₁
  unfolding head_out hex_of write_specifier
  head-two g y = rw g (rw e at y)

  pub head_three : w ≡ Three → Wrote (88 ∷ o ∷ 51 ∷ 10 ∷ []) out 0 r out₁ → Wrote (head_out (F x b w)) out 0 r out₁
  unfolding head_out hex_of write_specifier
  head_three g y = rw g (rw e at y)

  pub head-four : w ≡ Four → Wrote (88 ∷ o ∷ 52 ∷ 10 ∷ []) out 0 r out₁ → Wrote (head_out (F x b w)) out 0 r out₁
  unfolding head_out hex_of write_specifier
  head-four g y = rw g (rw e at y)

pub ruleset heads = (rules, head-two, head_three, head-four)
