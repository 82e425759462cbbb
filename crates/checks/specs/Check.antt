-- The check pass: how many fixups there are behind a fragment, an entry, a line; 11, 12 and 13.
-- Assumes nothing.
use Rattle.checks.specs.declared.check.Fault.{Fault}
use Rattle.checks.specs.declared.check.Fault.TheVariants as fault
use Rattle.std.specs.Prelude.{ℕ, zero, suc, ◌+◌, ◌≤◌, ◌≡◌, Bool, true, false, List, [], ◌∷◌, eqb, ltb, get_or, Result, Ok, Err}
use Rattle.std.proofs.Math.Option.{Option, none, some}
use Rattle.format.specs.Lists.{pick}
use Rattle.format.specs.Pairs.{Fragment}
use Rattle.format.specs.Outcome.{Outcome, fine, refused, and_then}
use Rattle.format.specs.Tables.{Tables}
use Rattle.sites.specs.declared.Site.{Site}
use Rattle.row_count.specs.Count.{count_to, told_count, used_by}
use Rattle.sites.specs.Site.{is_ready, tables_for}
use Rattle.references.specs.References.{refers_at}
use Rattle.sites.specs.Columns.{fragments_in}

-- behind the fragments of an entry, the i-th first; n numbers are made
unfoldable pub counts_at : Tables → (n entry i : ℕ) → List Fragment → (k place : ℕ) → Outcome ℕ
counts_at t n entry i [] k place = fine k
counts_at t n entry i (f ∷ fs) k place =
    and_then (and_then (refers_at t f entry place) (λ r. count_to i n k place r)) (λ j. counts_at t n entry (suc i) fs j place)

-- behind m entries from an entry on, while the position is inside the area
unfoldable pub count_walk : Tables → (n size : ℕ) → List Fragment → (keeps : List ℕ) → (m entry position k place : ℕ) → Outcome ℕ
count_walk t n size fs keeps zero entry position k place = fine k
count_walk t n size fs keeps (suc m) entry position k place =
    pick (ltb position size)
    (and_then (counts_at t n entry 0 fs k place) (λ j.
    count_walk t n size fs keeps m (suc entry) (position + pick (eqb (get_or keeps entry 0) 1) 1 0) j place))
    (fine k)

-- the same at the lent rows; the place comes last, so that a contract names it without a λ
unfoldable pub count_entry : (ms es xs areas symbols : List ℕ) → Site → (entry k place : ℕ) → Outcome ℕ
count_entry ms es xs areas symbols s entry k place =
    counts_at (tables_for areas symbols s.filled) s.made entry 0 (fragments_in ms es xs s.line.fragments) k place

unfoldable pub count_line : (ms es xs areas symbols : List ℕ) → Site → (keeps : List ℕ) → (place : ℕ) → Outcome ℕ
count_line ms es xs areas symbols s keeps place =
    count_walk (tables_for areas symbols s.filled) s.made s.size (fragments_in ms es xs s.line.fragments) keeps (s.line.width + s.line.bytes) 0 s.line.address s.filled.fixups place

-- a tally of rows: what it says, and that there is room for them
pub record Tallied (o : ℕ → Outcome ℕ) (k : ℕ) (r : Result ℕ ℕ) : Type 0 where
  pub says : (place : ℕ) → told_count place r ≡ o place
  pub room : used_by r ≤ 1024
  pub grew : k ≤ used_by r

abbrev pub is_fine : Outcome ℕ → Bool
is_fine (fine k) = true
is_fine (refused n p) = false

-- the same without the count: a refusal is the definition's, and where there is none the definition has none
pub record Passes (o : ℕ → Outcome ℕ) (r : Result ℕ ℕ) : Type 0 where
  pub stops : (x : ℕ) → r ≡ Err x → (place : ℕ) → o place ≡ refused x place
  pub goes : (x : ℕ) → r ≡ Ok x → (place : ℕ) → is_fine (o place) ≡ true

-- a count without its number: 0 where there is no refusal
abbrev pub verdict : Outcome ℕ → Outcome ℕ
verdict (fine k) = fine 0
verdict (refused n p) = refused n p

-- what the check pass answers
abbrev pub told_check : (place : ℕ) → Result (Unit {0}) Fault → Option (Outcome ℕ)
told_check place (Err fault.Misfit) = none
told_check place (Err (fault.Refused n)) = some (refused n place)
told_check place (Ok u) = some (fine 0)

-- the check pass of a site: a misfit, a refusal, or none
pub record Judged (s : Site) (o : ℕ → Outcome ℕ) (r : Result (Unit {0}) Fault) : Type 0 where
  pub says : (place : ℕ) → told_check place r ≡ pick (is_ready s) (some (verdict (o place))) none
