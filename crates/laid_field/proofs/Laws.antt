-- A field of a fragment: its number where the content has ended, and the field laid.
-- Assumes nothing.
use Prim.Native.Nat.{ℕ, ◌≤◌}
use mathlib.Core.Path.{◌≡◌, refl, ◌∙◌}
use mathlib.Core.Bool.{Bool, true, false}
use mathlib.Core.List.{List, []}
use native.Mathlib.Omega.{arith}
use lib.Dec.{eqb}
use lib.ListN.{length, take, drop, drop_of_length-le}
use lib.Seq.{sets, take-nil}
use borrow.Author.Rules.{rules}
use Rattle.format.specs.Lists.{pick}
use Rattle.format.specs.Mode.{on_site}
use Rattle.format.specs.Number.{join, horner, little}
use Rattle.format.specs.Target.{wrap_add}
use Rattle.std.specs.Prelude.{Option, Some, None}
use Rattle.referred_address.specs.Address.{told_address}
use Rattle.laid.specs.Laid.{in_bytes}
use Rattle.laid_field.specs.Field.{size_by, field_by}

-- ------------------------------------------------------------------ `number_at`

module _ (bs : List ℕ) (site : ℕ) (big three : Bool) {at : ℕ} (ea : at ≡ site) where
  pub number_past : length bs ≤ at → 0 ≡ join big (take (pick three 3 2) (drop site bs))
  unfolding join horner little
  number_past h = let l : length bs ≤ site = omega arith in rw (drop_of_length-le bs l, take-nil {A = ℕ} (pick three 3 2)) (go big)
    where
      go : (b : Bool) → 0 ≡ join b []
      go true = refl
      go false = refl

pub ruleset joining = (rules, number_past)

-- ------------------------------------------------------------------ `lay_field`

module _ (part bs : List ℕ) (mode site : ℕ) (big : Bool) {three : Bool} (et : three ≡ eqb (on_site mode) 3) {to : Option ℕ} {part' : List ℕ} where
  pub field-nothing : to ≡ None → part' ≡ sets part site (in_bytes big (pick three 3 2) 0) → part' ≡ sets part site (field_by big site bs mode (told_address to))
  unfolding size_by
  field-nothing e h = h ∙ rw (et, e)

  pub field_at : {a : ℕ} → to ≡ Some a → {n v : ℕ} → n ≡ join big (take (pick three 3 2) (drop site bs)) → v ≡ wrap_add a n → part' ≡ sets part site (in_bytes big (pick three 3 2) v)
      → part' ≡ sets part site (field_by big site bs mode (told_address to))
  unfolding size_by
  field_at e en ev h = h ∙ rw (ev, en, et, e)

pub ruleset fielding = (rules, field-nothing, field_at)
