-- What a pair alone leaves at a position of its area, in the definition's words.
-- Assumes nothing.
use Rattle.std.specs.Prelude.{ℕ, zero, suc, ◌+◌, ◌≡◌, Bool, ◌&&◌, List, eqb, ltb, get_or, length, take}
use Rattle.std.proofs.Math.Option.{Option, none, some}
use Rattle.format.specs.Lists.{pick}
use Rattle.format.specs.ModeStep.{Work}
use Rattle.format.specs.Outcome.{Outcome, fine, refused, and_then, fold}
use Rattle.format.specs.Tables.{last_index}
use Rattle.format.specs.WorkLine.{fresh, in_line, step_all}
use Rattle.homes.specs.declared.Home.{Home}
use Rattle.sites.specs.declared.Line.{Line}
use Rattle.sites.specs.declared.Site.{Site}
use Rattle.sites.specs.Columns.{fragments_in}
use Rattle.sites.specs.Site.{line_fits}
use Rattle.work.specs.Work.{form_of, content_of}
use Rattle.located.specs.Site.{kept_fits}
use Rattle.one_cell.specs.declared.Cell as code
use Rattle.one_cell.specs.declared.Cell.TheVariants.{Byte, Nothing, Beyond, Misfit}

-- a value and a mask
pub record Left : Type 0 where
  pub value : ℕ
  pub mask : ℕ

-- what m entries from an entry on leave at a position, while the walk's own position is inside an area of the size
unfoldable pub left_at : (size : ℕ) (w : Work) (m entry position want : ℕ) → Option Left
left_at size w zero entry position want = none
left_at size w (suc m) entry position want =
    let keep = eqb (get_or w.keeps entry 0) 1 in
    let rest = left_at size w m (suc entry) (position + pick keep 1 0) want in
    let here : Option Left = some (record { value = get_or w.values entry 0; mask = get_or w.masks entry 0 }) in
    pick (ltb position size) (pick (keep && eqb position want) here rest) none

-- an answer with the place of its T line; where the numbers do not fit there is none
abbrev pub told : (place : ℕ) → code.Cell → Option (Outcome (Option Left))
told place (Byte v m) = some (fine (some (record { value = v; mask = m })))
told place Nothing = some (fine none)
told place Beyond = some (refused 10 place)
told place Misfit = none

-- the work line of a pair, with its fragments worked in; neither the fragments' indexes nor the radix matter
unfoldable pub site_work : Line → (bs ms es xs : List ℕ) → (radix : ℕ) → Work
site_work l bs ms es xs radix = (step_all (form_of radix l) (fragments_in ms es xs l.fragments) (fresh l.width (content_of l bs).bytes)).work

-- 10, or what the pair leaves at a position
unfoldable pub left_by : Line → (size : ℕ) (bs ms es xs : List ℕ) (radix want : ℕ) → Outcome (Option Left)
left_by l size bs ms es xs radix want =
    and_then (fold (in_line l.width l.bytes l.place) 0 (fragments_in ms es xs l.fragments)) (λ k.
    fine (left_at size (site_work l bs ms es xs radix) (l.width + l.bytes) 0 l.address want))

-- a pair of an area that is not kept leaves nothing
abbrev pub left_in : Line → (size : ℕ) (bs ms es xs : List ℕ) (radix want : ℕ) → Option ℕ → Outcome (Option Left)
left_in l size bs ms es xs radix want none = fine none
left_in l size bs ms es xs radix want (some id) = left_by l size bs ms es xs radix want

-- whether a pair's numbers fit: the home is its area's, the counts are within the bounds, and so is the end of a kept area's image
unfoldable pub cell_fits : Line → Home → (bs : List ℕ) → Bool
cell_fits l h bs = eqb h.area l.area && (line_fits l (length bs) && kept_fits h.start h.size (last_index h.id))

-- the walk over a work line
pub record SoughtIn (s : Site) (want : ℕ) (wv wm wk : List ℕ) (r : code.Cell) : Type 0 where
  pub says : (place : ℕ) → told place r ≡ some (fine (left_at s.size (record { values = wv; masks = wm; keeps = wk }) (s.line.width + s.line.bytes) 0 s.line.address want))

-- a pair at its site
pub record SiteCell (s : Site) (bs ms es : List ℕ) (want : ℕ) (r : code.Cell) : Type 0 where
  pub says : (xs : List ℕ) (radix : ℕ) → told s.line.place r ≡ some (left_by s.line s.size bs ms es xs radix want)

-- a pair at any home
pub record CellIs (l : Line) (h : Home) (bs ms es : List ℕ) (want : ℕ) (r : code.Cell) : Type 0 where
  pub says : (xs : List ℕ) (radix : ℕ) → told l.place r ≡ pick (cell_fits l h bs) (some (left_in l h.size bs ms es xs radix want (last_index h.id))) none
