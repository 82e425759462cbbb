-- The conditions on a module whose code is laid, in words, beside the test that decides them.
-- Assumes nothing.
use Rattle.std.specs.Prelude.{ℕ, ◌+◌, ◌≤◌, ◌<◌, ◌≡◌, false, List, [], ◌∷◌, ◌⊎◌}
use Rattle.format.specs.Header.{Form}
use Rattle.format.specs.Pairs.{Fragment, Pair, skipped, placed}
use Rattle.format.specs.Mode.{Addr24, Addr16, bit, class_of, touched}
use Rattle.format.specs.Records.{Taken}
use Rattle.format.specs.Tables.{Tables}
use Rattle.order.specs.Order.{Apart}

-- what holds of each
abbrev pub Each : {A : Type 0} → (A → Type 0) → List A → Type 0
Each P [] = Unit {0}
Each P (x ∷ xs) = P x × Each P xs

-- what holds of any two, the first before the second
abbrev pub Pairwise : {A : Type 0} → (A → A → Type 0) → List A → Type 0
Pairwise R [] = Unit {0}
Pairwise R (x ∷ xs) = Each (R x) xs × Pairwise R xs

-- Addr16 or Addr24, bits 2, 5, 6, 9 and 10 clear, at or behind the address length
pub record FragmentFits (fm : Form) (f : Fragment) : Type 0 where
  pub class-is : (class_of f.mode ≡ Addr16) ⊎ (class_of f.mode ≡ Addr24)
  pub bit-2 : bit 2 f.mode ≡ false
  pub bit-5 : bit 5 f.mode ≡ false
  pub bit-6 : bit 6 f.mode ≡ false
  pub bit-9 : bit 9 f.mode ≡ false
  pub bit-10 : bit 10 f.mode ≡ false
  pub behind : fm.address_length ≤ f.entry

-- a fragment touches an entry
abbrev pub Touches : Fragment → ℕ → Type 0
Touches f e = (f.entry ≤ e) × (e < f.entry + touched f.mode)

-- two fragments touch no entry in common
pub record NoCommonEntry (f g : Fragment) : Type 0 where
  pub none-common : (e : ℕ) → Touches f e → Touches g e → ⊥

abbrev pub BodyFits : Form → Pair → Type 0
BodyFits fm skipped = Unit {0}
BodyFits fm (placed c r) = Each (FragmentFits fm) r.fragments × Pairwise NoCommonEntry r.fragments

-- the pairs of a module whose code is laid; Apart says that two pairs write no common position
pub record Fits (fm : Form) (t : Tables) (ps : List (Taken Pair)) : Type 0 where
  pub bodies : Each (λ (p : Taken Pair). BodyFits fm p.body) ps
  pub apart : Pairwise (Apart fm t) ps
