-- A name, a title, a word with its number: one law for each return, in the words of what its steps leave.
-- Assumes nothing.
use Prim.Native.Nat.{ℕ, ◌-◌, ◌≤◌}
use mathlib.Core.Path.{◌≡◌}
use mathlib.Core.Bool.{Bool}
use mathlib.Core.List.{List}
use native.Mathlib.Omega.{arith}
use borrow.Author.Rules.{rules}
use borrow.Author.Tests.{eq-eqb, ne_eqb}
use Rattle.format.specs.Bytes.{is_blank, is_name_byte}
use Rattle.format.specs.Got.{Got, is, isnt}
use Rattle.format.specs.Number.{past, name, number}
use Rattle.format.specs.Entries.{lead, titled, field}
use Rattle.format.specs.Number as the
use Rattle.numbers.proofs.Laws.Numbers.{space-no, space-is}
use Rattle.std.specs.Prelude.{Result, Ok, Err}
use Rattle.numbers.specs.Told.{code}
use Rattle.numbers.specs.declared.Halt.{Halt}
use Rattle.fields.specs.Told.{went}

-- `parse_symbol`
pub past-from : (p : ℕ → Bool) (s : List ℕ) {at e : ℕ} → e ≡ past p s at → at ≤ e
unfolding past
past-from p s e = omega arith

module _ (s : List ℕ) (at : ℕ) {b : ℕ} (f : b ≡ past is_name_byte s at) where
  pub name-1 : b ≡ at → isnt 4 at ≡ name s at
  unfolding name
  name-1 h = rw (← f, eq-eqb b at h)

  pub name-2 : (b ≡ at → ⊥) → is (record { at = at; length = b - at }) b ≡ name s at
  unfolding name
  name-2 h = rw (← f, ne_eqb b at h)

-- `title`
module _ (w s : List ℕ) {l : Result ℕ Halt} (e : went l ≡ lead w s 0) where
  pub title-1 : {h : Halt} → l ≡ Err h → isnt (code h.reason) h.at ≡ titled w s 0
  unfolding titled
  title-1 g = rw (← e, g)

  pub title-2 : {n : ℕ} → l ≡ Ok n → {x : Got the.Name} → x ≡ name s n → x ≡ titled w s 0
  unfolding titled
  title-2 g i = rw (← e, g) i

pub ruleset titles = (rules, past-from, name-1, name-2, title-1, title-2)

-- `field_at`
module _ (w : List ℕ) (radix : ℕ) (s : List ℕ) (at : ℕ) {a : ℕ} (e : a ≡ past is_blank s at) where
  pub field-1 : a ≡ at → isnt 4 at ≡ field w radix s at
  unfolding field
  field-1 h = rw (space-no s at e h)

  module _ (h : a ≡ at → ⊥) {l : Result ℕ Halt} (f : went l ≡ lead w s a) where
    pub field-2 : {h : Halt} → l ≡ Err h → isnt (code h.reason) h.at ≡ field w radix s at
    unfolding field
    field-2 g = rw (space-is s at e h, ← f, g)

    pub field-3 : {n : ℕ} → l ≡ Ok n → {m : Got ℕ} → m ≡ number radix s n → m ≡ field w radix s at
    unfolding field
    field-3 g i = rw (space-is s at e h, ← f, g) i

pub ruleset fields = (rules, field-1, field-2, field-3)
