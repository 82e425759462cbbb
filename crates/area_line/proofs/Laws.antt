-- The laws of what an area's line says of its id and of its kind, and of a position.
-- Assumes nothing.
use Prim.Native.Nat.{ℕ}
use mathlib.Core.Path.{◌≡◌, ap, sym, ◌∙◌}
use mathlib.Core.Bool.{Bool, true, false}
use mathlib.Core.List.{List, ◌++◌}
use mathlib.Core.Option.{Option, none, some}
use native.Mathlib.Omega.{arith}
use lib.ListN.{get_or}
use borrow.Author.Rules.{rules}
use Rattle.std.specs.Prelude.{Option as Answer, Some, None}
use Rattle.hexadecimal.specs.Hex.{hex_digits, value_and_mask}
use Rattle.format.specs.Lists.{pick}
use Rattle.format.specs.Tables.{Area, absolute, base}
use Rattle.kept_areas.specs.Told.{told_id}
use Rattle.sink.specs.declared.output.Sink.{Sink}
use Rattle.sink.specs.Sinks.{Adds, AddsDecimal}
use Rattle.area_line.specs.Lines.{AddsId, id_word, kind_text, absolute_word, relocatable_word}

-- `kind`
kind-is : (a : Area) {b d : Bool} → b ≡ absolute a → b ≡ d → kind_text a ≡ pick d (absolute_word ++ hex_digits 8 (base a)) relocatable_word
kind-is a p q = ap (λ (x : Bool). pick x (absolute_word ++ hex_digits 8 (base a)) relocatable_word) (sym p ∙ q)

module _ {s r : Sink} {out after : List ℕ} (a : Area) {b : Bool} where
  pub kind-absolute : b ≡ absolute a → b ≡ true → {x y : ℕ} → x ≡ base a → y ≡ x → Adds s out (absolute_word ++ hex_digits 8 y) r after → Adds s out (kind_text a) r after
  kind-absolute p q {x} {y} e f w = rw (kind-is a p q, ← e, ← f) w

  pub kind-relocatable : b ≡ absolute a → b ≡ false → Adds s out relocatable_word r after → Adds s out (kind_text a) r after
  kind-relocatable p q w = rw (kind-is a p q) w

pub ruleset kinds = (rules, kind-absolute, kind-relocatable)

-- `id`
module _ {s r : Sink} {out after : List ℕ} {o : Option ℕ} {x : Answer ℕ} (p : told_id x ≡ o) where
  pub id-told : {k : ℕ} → x ≡ Some k → AddsDecimal s out id_word k r after → AddsId s out o r after
  id-told {k} f w =
      let e : some k ≡ o = ap told_id (sym f) ∙ p in
      record { told = λ m g. let q : k ≡ m = cc in rw q at w }

  pub id-none : x ≡ None → AddsId s out o r after
  id-none f =
      let e : none ≡ o = ap told_id (sym f) ∙ p in
      record { told = λ m g. let z : ◌≡◌ {A = ℕ} 0 1 = cc in absurd (omega arith) }

pub ruleset ids = (rules, id-told, id-none)

-- `position`
pub position-is : {s r : Sink} {out after : List ℕ} (values masks : List ℕ) (i : ℕ) {v m : ℕ} {t : List ℕ} → v ≡ get_or values i 0 → m ≡ get_or masks i 0 → t ≡ value_and_mask v m → Adds s out t r after → Adds s out (value_and_mask (get_or values i 0) (get_or masks i 0)) r after
position-is values masks i e f g w = rw (← e, ← f, ← g) w

pub ruleset positions = (rules, position-is)
