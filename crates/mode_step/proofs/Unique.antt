-- No second answer fits the contract of the mode step.
-- Assumes nothing.
use Prim.Native.Nat.{ℕ}
use mathlib.Core.Bool.{Bool}
use mathlib.Core.Path.{◌≡◌, refl, sym, ◌∙◌}
use mathlib.Core.List.{List}
use native.Mathlib.Omega.{arith}
use Rattle.std.specs.Prelude.{Option as Answer, Some, None}
use Rattle.format.specs.Mode.{Class}
use Rattle.mode_step.specs.Step.{Modified, told_step}

one_number : (a b : Answer ℕ) → told_step a ≡ told_step b → a ≡ b
one_number (Some n) (Some m) e =
    let q : n ≡ m = cc in
    rw q
one_number (Some n) None e = absurd (let z : ◌≡◌ {A = ℕ} 0 1 = cc in omega arith)
one_number None (Some m) e = absurd (let z : ◌≡◌ {A = ℕ} 0 1 = cc in omega arith)
one_number None None e = refl

-- `modify_cmf_to_fixup`
pub one-step : (c : Class) (three big : Bool) (r r' : Answer ℕ) (vs ms ks vs' ms' ks' vs'' ms'' ks'' : List ℕ) → Modified c three big r vs ms ks vs' ms' ks' → Modified c three big r' vs ms ks vs'' ms'' ks''
    → (r ≡ r') × (vs' ≡ vs'') × (ms' ≡ ms'') × (ks' ≡ ks'')
one-step c three big r r' vs ms ks vs' ms' ks' vs'' ms'' ks'' a b =
    (one_number r r' (a.number ∙ sym b.number), a.values ∙ sym b.values, a.masks ∙ sym b.masks, a.keeps ∙ sym b.keeps)
