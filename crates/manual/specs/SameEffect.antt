-- Two modes that differ in one bit, and what it means that this bit has no effect.
-- Assumes nothing.
use Rattle.std.specs.Prelude.{ℕ, ◌≡◌, Bool, false, List, eqb}
use Rattle.format.specs.Mode.{bit, class_of, gives, on_site, touched}
use Rattle.format.specs.ModeStep.{step_keeps_of, step_masks, step_number, step_values}
use Rattle.format.specs.Tables.{Tables}
use Rattle.format.specs.Fixups.{reference}
use Rattle.format.specs.Target.{target_of}

-- the same bits but for bit k
abbrev pub AgreeBut : ℕ → ℕ → ℕ → Type 0
AgreeBut k m m' = (j : ℕ) → eqb j k ≡ false → bit j m ≡ bit j m'

-- the same class, touched entries and bytes on site, and the same mode step
pub record SameStep (m m' : ℕ) : Type 0 where
  pub class : class_of m ≡ class_of m'
  pub touches : touched m ≡ touched m'
  pub size : on_site m ≡ on_site m'
  pub values : (vs : List ℕ) → step_values m vs ≡ step_values m' vs
  pub masks : (ms : List ℕ) → step_masks m ms ≡ step_masks m' ms
  pub keeps : (ks : List ℕ) → step_keeps_of m ks ≡ step_keeps_of m' ks
  pub number : (big : Bool) (vs : List ℕ) → step_number big m vs ≡ step_number big m' vs

-- a fixup given or not
abbrev pub SameGives : ℕ → ℕ → Type 0
SameGives m m' = gives m ≡ gives m'

-- the same reference, for any entry and index
abbrev pub SameReference : ℕ → ℕ → Type 0
SameReference m m' = (t : Tables) (place entry index : ℕ)
    → reference t place (record { mode = m; entry = entry; index = index }) ≡ reference t place (record { mode = m'; entry = entry; index = index })

-- the same target, for any number, bytes and address
abbrev pub SameTarget : ℕ → ℕ → Type 0
SameTarget m m' = (big : Bool) (n : ℕ) (bs : List ℕ) (addr : ℕ) → target_of big m n bs addr ≡ target_of big m' n bs addr

-- no effect at all
pub record SameEffect (m m' : ℕ) : Type 0 where
  pub step : SameStep m m'
  pub fixup : SameGives m m'
  pub refers : SameReference m m'
  pub target : SameTarget m m'
