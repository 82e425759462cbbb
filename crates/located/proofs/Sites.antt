-- What an answer of `locate` says of the home and of the site.
-- Assumes nothing.
use Prim.Native.Nat.{ℕ}
use mathlib.Core.Path.{◌≡◌, refl}
use mathlib.Core.Bool.{Bool, true, false}
use mathlib.Core.Option.{Option, none, some}
use native.Mathlib.Omega.{arith}
use Rattle.format.specs.Lists.{pick}
use Rattle.sites.specs.declared.Line.{Line}
use Rattle.sites.specs.declared.Filled.{Filled}
use Rattle.sites.specs.declared.Site.{Site}
use Rattle.located.specs.declared.Found.{Found}
use Rattle.located.specs.declared.Found.TheVariants as at
use Rattle.located.specs.Site.{image_fits, site_at, found_by, kept_fits}

-- where a pair of a kept area goes
pub record Sited (start size : ℕ) (l : Line) (n : Filled) (o : Option ℕ) (s : Site) : Type 0 where
  pub id : ℕ
  pub ranks : o ≡ some id
  pub fitting : image_fits start size ≡ true
  pub is : s ≡ site_at l n id start size

unlike-found : {C : Type 0} (s : Site) (f : Found) → f ≡ at.At s → (f ≡ at.Misfit → C) × (f ≡ at.Unkept → C)
unlike-found s f e = (λ g. let z : ◌≡◌ {A = ℕ} 0 1 = cc in absurd (omega arith), λ g. let z : ◌≡◌ {A = ℕ} 0 1 = cc in absurd (omega arith))

module _ (start size : ℕ) (l : Line) (n : Filled) where
  sited-if : (id : ℕ) (s : Site) (b : Bool) → image_fits start size ≡ b → pick b (at.At (site_at l n id start size)) at.Misfit ≡ at.At s → Sited start size l n (some id) s
  sited-if id s true e h = record { id = id; ranks = refl; fitting = e; is = cc }
  sited-if id s false e h = (unlike-found s at.Misfit h).0 refl

  pub sited : (o : Option ℕ) (s : Site) → found_by start size l n o ≡ at.At s → Sited start size l n o s
  sited none s h = (unlike-found s at.Unkept h).1 refl
  sited (some id) s h = sited-if id s (image_fits start size) refl h

  -- an area that is not kept has no rank, and one that does not fit says so
  pub unkept-by : (o : Option ℕ) (b : Bool) → image_fits start size ≡ b → found_by start size l n o ≡ at.Unkept → o ≡ none
  unkept-by none b e h = refl
  unkept-by (some id) true e h = let g = rw e at h in let z : ◌≡◌ {A = ℕ} 0 1 = cc in absurd (omega arith)
  unkept-by (some id) false e h = let g = rw e at h in let z : ◌≡◌ {A = ℕ} 0 1 = cc in absurd (omega arith)

  pub misfit-by : (o : Option ℕ) (b : Bool) → image_fits start size ≡ b → found_by start size l n o ≡ at.Misfit → kept_fits start size o ≡ false
  misfit-by none b e h = let z : ◌≡◌ {A = ℕ} 0 1 = cc in absurd (omega arith)
  misfit-by (some id) true e h = let g = rw e at h in let z : ◌≡◌ {A = ℕ} 0 1 = cc in absurd (omega arith)
  misfit-by (some id) false e h = e
