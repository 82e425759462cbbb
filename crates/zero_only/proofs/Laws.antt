-- A number that has to be 0: one law for each return, and what a reader's halts make of it.
-- Assumes nothing.
use Prim.Native.Nat.{ℕ}
use mathlib.Core.Path.{◌≡◌, refl}
use mathlib.Core.Bool.{Bool, true, false}
use borrow.Author.Rules.{rules}
use borrow.Author.Tests.{eq-eqb, ne_eqb}
use lib.Dec.{eqb}
use Rattle.std.specs.Prelude.{Result, Ok, Err}
use Rattle.format.specs.Got.{is, isnt}
use Rattle.format.specs.Lists.{pick}
use Rattle.numbers.specs.Told.{told, code}
use Rattle.numbers.specs.declared.Halt.{Halt}
use Rattle.numbers.specs.declared.Read.{Read}
use Rattle.zero_only.specs.Zero.{zero_only, zero_or}

module _ {H : Type 0} {i : Result (Read ℕ) H} (other : H) where
  pub zero_or-1 : {h : H} → i ≡ Err h → i ≡ zero_or i other
  zero_or-1 g = rw g

  module _ {r : Read ℕ} (g : i ≡ Ok r) where
    pub zero_or-2 : r.value ≡ 0 → Ok r ≡ zero_or i other
    zero_or-2 h = rw (g, eq-eqb r.value 0 h)

    pub zero_or-3 : (r.value ≡ 0 → ⊥) → Err other ≡ zero_or i other
    zero_or-3 h = rw (g, ne_eqb r.value 0 h)

-- the same of a reader's answer as the definition tells it, with reason 4 at a place for another number
module _ {i : Result (Read ℕ) Halt} (at : ℕ) where
  pub zero-1 : {h : Halt} → i ≡ Err h → told (Err h) ≡ zero_only (told i) at
  zero-1 g = rw g

  module _ {r : Read ℕ} (g : i ≡ Ok r) where
    pub zero-2 : r.value ≡ 0 → is r.value r.next ≡ zero_only (told i) at
    zero-2 h = rw (g, eq-eqb r.value 0 h)

    pub zero-3 : (r.value ≡ 0 → ⊥) → isnt 4 at ≡ zero_only (told i) at
    zero-3 h = rw (g, ne_eqb r.value 0 h)

pub ruleset zeros = (rules, zero_or-1, zero_or-2, zero_or-3, zero-1, zero-2, zero-3)

told-picked : (b : Bool) (r : Read ℕ) (other : Halt) → told (pick b (Ok r) (Err other)) ≡ pick b (is r.value r.next) (isnt (code other.reason) other.at)
told-picked true r other = refl
told-picked false r other = refl

-- of a reader's answer, with a halt of reason 4 at a place
pub zero-told : (i : Result (Read ℕ) Halt) (other : Halt) (at : ℕ) → code other.reason ≡ 4 → other.at ≡ at → told (zero_or i other) ≡ zero_only (told i) at
zero-told (Ok r) other at e f = rw (← e, ← f) (told-picked (eqb r.value 0) r other)
zero-told (Err h) other at e f = refl
