-- What a pair marks in a map of positions, in the definition's words.
-- Assumes nothing.
use Rattle.std.specs.Prelude.{ℕ, zero, suc, ◌+◌, ◌≡◌, Bool, ◌&&◌, List, eqb, ltb, get_or, set}
use Rattle.std.proofs.Math.Option.{Option, none, some}
use Rattle.format.specs.Lists.{pick}
use Rattle.format.specs.Outcome.{Outcome, fine, refused, and_then, fold}
use Rattle.format.specs.Tables.{last_index}
use Rattle.format.specs.WorkLine.{in_line}
use Rattle.homes.specs.declared.Home.{Home}
use Rattle.sites.specs.declared.Line.{Line}
use Rattle.sites.specs.declared.Site.{Site}
use Rattle.sites.specs.Columns.{fragments_in}
use Rattle.one_cell.specs.Cell.{cell_fits, site_work}

-- a map once m entries from an entry on were walked, while the position is inside the area
unfoldable pub mark_walk : (start size : ℕ) (keeps : List ℕ) (m entry position : ℕ) → List ℕ → List ℕ
mark_walk start size keeps zero entry position map = map
mark_walk start size keeps (suc m) entry position map =
    let b = eqb (get_or keeps entry 0) 1 in
    let rest = mark_walk start size keeps m (suc entry) (position + pick b 1 0) (pick b (set map (start + position) 1) map) in
    pick (ltb position size) rest map

-- 10, or the map once the pair marked what it writes
unfoldable pub marked_by : Line → (start size : ℕ) (bs ms es xs : List ℕ) (radix : ℕ) → List ℕ → Outcome (List ℕ)
marked_by l start size bs ms es xs radix map =
    and_then (fold (in_line l.width l.bytes l.place) 0 (fragments_in ms es xs l.fragments)) (λ k.
    fine (mark_walk start size (site_work l bs ms es xs radix).keeps (l.width + l.bytes) 0 l.address map))

-- a pair that is refused marks nothing
abbrev pub or_before : List ℕ → Outcome (List ℕ) → List ℕ
or_before map (fine new) = new
or_before map (refused n p) = map

-- nor does a pair of an area that is not kept
abbrev pub marked_in : Line → Home → (bs ms es xs : List ℕ) (radix : ℕ) → List ℕ → Option ℕ → List ℕ
marked_in l h bs ms es xs radix map none = map
marked_in l h bs ms es xs radix map (some id) = or_before map (marked_by l h.start h.size bs ms es xs radix map)

-- an entry
pub record EntryMarks (keep at : ℕ) (old : List ℕ) (grows : ℕ) (new : List ℕ) : Type 0 where
  pub grows-by : grows ≡ pick (eqb keep 1) 1 0
  pub stored : new ≡ pick (eqb keep 1) (set old at 1) old

-- all entries of a work line
pub record EntriesMark (s : Site) (wk old new : List ℕ) : Type 0 where
  pub says : new ≡ mark_walk s.start s.size wk (s.line.width + s.line.bytes) 0 s.line.address old

-- a pair at its site; neither the fragments' indexes nor the radix matter
pub record SiteMarks (s : Site) (bs ms es old new : List ℕ) : Type 0 where
  pub says : (xs : List ℕ) (radix : ℕ) → new ≡ or_before old (marked_by s.line s.start s.size bs ms es xs radix old)

-- a pair at any home; where its numbers do not fit, nothing is marked
pub record PairMarks (l : Line) (h : Home) (bs ms es old new : List ℕ) : Type 0 where
  pub says : (xs : List ℕ) (radix : ℕ) → new ≡ pick (cell_fits l h bs) (marked_in l h bs ms es xs radix old (last_index h.id)) old
