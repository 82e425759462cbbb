-- What a fragment refers to, and what the answers of the lookup say.
-- Assumes nothing.
use Rattle.std.specs.Prelude.{ℕ, ◌&&◌, List, eqb}
use Rattle.std.proofs.Math.Option.{Option, none, some}
use Rattle.format.specs.Lists.{pick}
use Rattle.format.specs.Pairs.{Fragment}
use Rattle.format.specs.Mode.{gives}
use Rattle.format.specs.Outcome.{Outcome, fine, refused}
use Rattle.format.specs.Tables.{Tables}
use Rattle.format.specs.Fixups.{reference}
use Rattle.format.specs.Fixups as defs
use Rattle.sites.specs.declared.Filled.{Filled}
use Rattle.sites.specs.Site.{tables_for}
use Rattle.references.specs.declared.Reference.{Reference}
use Rattle.references.specs.declared.Refers.{Refers}
use Rattle.references.specs.declared.Refers.TheVariants.{Missing, Nothing, To}

abbrev pub refers : Reference → defs.Reference
refers t = record { outside = t.outside; what = t.what; length = t.length; value = t.value }

abbrev pub told : ℕ → Refers → Outcome (Option defs.Reference)
told place Missing = refused 11 place
told place Nothing = fine none
told place (To t) = fine (some (refers t))

-- the reference that a fragment has at an entry, if it stands there and its mode can give a fixup
unfoldable pub refers_at : Tables → Fragment → (entry place : ℕ) → Outcome (Option defs.Reference)
refers_at t f entry place = pick (eqb f.entry entry && gives f.mode) (reference t place f) (fine none)

-- the same at the lent rows
unfoldable pub refers_in : (areas symbols : List ℕ) → Filled → Fragment → (entry place : ℕ) → Outcome (Option defs.Reference)
refers_in areas symbols n f entry place = refers_at (tables_for areas symbols n) f entry place
