-- What the walk for fixup rows answers, in the definition's words.
-- Assumes nothing.
use Rattle.std.specs.Prelude.{ℕ, zero, suc, ◌+◌, ◌*◌, ◌≤◌, ◌≡◌, List, [], ◌++◌, ◌∷◌, eqb, ltb, length, take, drop, get_or, Result, Ok, Err}
use Rattle.format.specs.Lists.{pick}
use Rattle.format.specs.Pairs.{Fragment}
use Rattle.format.specs.Outcome.{Outcome, fine, refused, and_then}
use Rattle.format.specs.Fixups.{Fixup, fixup_to, fixups_at}
use Rattle.format.specs.Fixups as defs
use Rattle.laws.specs.Rows.{fixups_in}
use Rattle.sites.specs.declared.Site.{Site}
use Rattle.references.specs.declared.Reference.{Reference}
use Rattle.references.specs.declared.Refers.{Refers}
use Rattle.references.specs.declared.Refers.TheVariants.{To}
use Rattle.references.specs.References as ref
use Rattle.sites.specs.Columns.{fragments_in}
use Rattle.sites.specs.Site.{tables_for}
use Rattle.row_count.specs.Count.{used_by}

-- what the lent tables and numbers stand for
unfoldable pub site_of : (areas symbols ns : List ℕ) → Site → (place : ℕ) → defs.Site
site_of areas symbols ns s place = record { tables = tables_for areas symbols s.filled; place = place; home = s.id; numbers = take s.made ns }

-- the walk of the definition, for the fixups alone: m entries from an entry on, while the position is inside the area
unfoldable pub fixups_walk : defs.Site → (size : ℕ) → List Fragment → (keeps : List ℕ) → (m entry position : ℕ) → List Fixup → Outcome (List Fixup)
fixups_walk w size fs keeps zero entry position xs = fine xs
fixups_walk w size fs keeps (suc m) entry position xs =
    pick (ltb position size)
    (and_then (fixups_at w entry position 0 fs xs) (λ ys. fixups_walk w size fs keeps m (suc entry) (position + pick (eqb (get_or keeps entry 0) 1) 1 0) ys))
    (fine xs)

-- the definition at the lent rows; the place comes last, so that a contract names it without a λ
unfoldable pub entry_at : (ms es xs areas symbols ns : List ℕ) → Site → (entry position : ℕ) → List Fixup → (place : ℕ) → Outcome (List Fixup)
entry_at ms es xs areas symbols ns s entry position fs place =
    fixups_at (site_of areas symbols ns s place) entry position 0 (fragments_in ms es xs s.line.fragments) fs

unfoldable pub line_at : (ms es xs areas symbols ns : List ℕ) → Site → (keeps : List ℕ) → List Fixup → (place : ℕ) → Outcome (List Fixup)
line_at ms es xs areas symbols ns s keeps fs place =
    fixups_walk (site_of areas symbols ns s place) s.size (fragments_in ms es xs s.line.fragments) keeps (s.line.width + s.line.bytes) 0 s.line.address fs

-- what an answer says, with the rows as they are then
abbrev pub told : (place : ℕ) → Result ℕ ℕ → List ℕ → Outcome (List Fixup)
told place (Err n) rows = refused n place
told place (Ok k) rows = fine (fixups_in rows k)

-- no row behind the used ones is touched
pub record Within (k : ℕ) (r : Result ℕ ℕ) (rows rows' : List ℕ) : Type 0 where
  pub room : used_by r ≤ 1024
  pub grew : k ≤ used_by r
  pub rest : drop (9 * used_by r) rows' ≡ drop (9 * used_by r) rows

abbrev pub to_reference : Reference → Refers
to_reference t = To t

abbrev pub fixup : (home position size mode : ℕ) → Reference → (number : ℕ) → Fixup
fixup home position size mode t n = record { home = home; position = position; size = size; mode = mode; refers = ref.refers t; number = n }

-- one row behind k rows
pub record OneRow (k : ℕ) (x : Fixup) (rows rows' : List ℕ) : Type 0 where
  pub made : fixups_in rows' (suc k) ≡ fixups_in rows k ++ x ∷ []
  pub rest : drop (9 * suc k) rows' ≡ drop (9 * suc k) rows

-- a row for what the i-th fragment refers to: 11, 12, 13, no row, or one
pub record Added (s : Site) (ms ns : List ℕ) (to : Refers) (i position k : ℕ) (rows : List ℕ) (r : Result ℕ ℕ) (rows' : List ℕ) : Type 0 where
  pub says : (w : defs.Site) (f : Fragment) → w.numbers ≡ take s.made ns → length w.numbers ≡ s.made → w.home ≡ s.id → f.mode ≡ get_or ms i 0
      → told w.place r rows' ≡ and_then (ref.told w.place to) (λ x. fixup_to w i position f (fixups_in rows k) x)
  pub within : Within k r rows rows'

-- rows made for an entry, or for a line: what the definition says at each place
pub record Made (o : ℕ → Outcome (List Fixup)) (k : ℕ) (rows : List ℕ) (r : Result ℕ ℕ) (rows' : List ℕ) : Type 0 where
  pub says : (place : ℕ) → told place r rows' ≡ o place
  pub within : Within k r rows rows'
