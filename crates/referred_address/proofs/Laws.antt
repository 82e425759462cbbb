-- What the proofs of a referred address share: a law for each return.
-- Assumes nothing.
use Prim.Native.Nat.{ℕ}
use mathlib.Core.Path.{◌≡◌, ap, sym, ◌∙◌}
use mathlib.Core.List.{List, [], ◌∷◌}
use mathlib.Core.Option.{some}
use Rattle.std.specs.Prelude.{Some, None}
use lib.ListN.{get_or}
use borrow.Author.Rules.{rules}
use borrow.Author.Tests.{eq-eqb, ne_eqb}
use Rattle.format.specs.Target.{wrap_add}
use Rattle.laws.specs.Rows.{fragment}
use Rattle.sites.specs.declared.Filled.{Filled}
use Rattle.sites.specs.Columns.{fragment_at}
use Rattle.references.specs.declared.Reference.{Reference}
use Rattle.references.specs.declared.Refers.{Refers}
use Rattle.references.specs.declared.Refers.TheVariants as code
use Rattle.references.specs.References.{told, refers, refers_in}
use Rattle.referred_address.specs.Address.{address_by, address_in, told_address}

-- `address_of`
module _ (t : Reference) (index : ℕ) (areas outside : List ℕ) {v : ℕ} (ev : v ≡ t.value) where
  pub of-outside : t.outside ≡ 1 → {i a r : ℕ} → i ≡ index → a ≡ get_or outside i 0 → r ≡ wrap_add a v → r ≡ address_by areas outside index (refers t)
  unfolding address_by
  of-outside h ei ea er = er ∙ rw (ea, ei, ev, eq-eqb t.outside 1 h)

  pub of-area : (t.outside ≡ 1 → ⊥) → {i a r : ℕ} → i ≡ t.what → a ≡ get_or areas i 0 → r ≡ wrap_add a v → r ≡ address_by areas outside index (refers t)
  unfolding address_by
  of-area h ei ea er = er ∙ rw (ea, ei, ev, ne_eqb t.outside 1 h)

pub ruleset adding = (rules, of-outside, of-area)

-- `refers`: one fragment in columns of one
module _ (areas symbols : List ℕ) (n : Filled) (mode entry index : ℕ) where
  pub one-alone : (r : Refers) → ((place : ℕ) → told place r ≡ refers_in areas symbols n (fragment_at (mode ∷ []) (entry ∷ []) (index ∷ []) 0) entry place)
      → (place : ℕ) → told place r ≡ refers_in areas symbols n (fragment mode entry index) entry place
  unfolding fragment_at
  one-alone r f place = f place

pub ruleset referring = (rules, one-alone)

-- `address_to`
module _ (chosen outside areas symbols : List ℕ) (n : Filled) (mode entry index : ℕ) (r : Refers) (f : (place : ℕ) → told place r ≡ refers_in areas symbols n (fragment mode entry index) entry place) where
  pub to-missing : r ≡ code.Missing → (place : ℕ) → told_address None ≡ address_in chosen outside index (refers_in areas symbols n (fragment mode entry index) entry place)
  to-missing e place = ap (address_in chosen outside index) (ap (told place) (sym e) ∙ f place)

  pub to-nothing : r ≡ code.Nothing → (place : ℕ) → told_address None ≡ address_in chosen outside index (refers_in areas symbols n (fragment mode entry index) entry place)
  to-nothing e place = ap (address_in chosen outside index) (ap (told place) (sym e) ∙ f place)

  pub to-something : {t : Reference} → r ≡ code.To t → {a : ℕ} → a ≡ address_by chosen outside index (refers t)
      → (place : ℕ) → told_address (Some a) ≡ address_in chosen outside index (refers_in areas symbols n (fragment mode entry index) entry place)
  to-something e ea place = ap some ea ∙ ap (address_in chosen outside index) (ap (told place) (sym e) ∙ f place)

pub ruleset telling = (rules, to-missing, to-nothing, to-something)
