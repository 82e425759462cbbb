-- Placing pairs: the walk over the entries of a work line, the images and the fixups that it leaves.
-- Assumes nothing.
use Rattle.std.specs.Prelude.{suc, zero, ℕ, ◌+◌, List, [], drop, get_or, length, replicate, set, take, eqb, ltb}
use Rattle.std.proofs.Math.Option.{Option, none, some}
use Rattle.format.specs.Lists.{pick}
use Rattle.format.specs.Header.{Form}
use Rattle.format.specs.Pairs.{Content, Fragment, Pair, Relocation, placed, skipped}
use Rattle.format.specs.ModeStep.{Work}
use Rattle.format.specs.Outcome.{Outcome, and_then, fine, fold}
use Rattle.format.specs.Records.{Taken}
use Rattle.format.specs.Tables.{Area, Tables, offset, rank, total}
use Rattle.format.specs.WorkLine.{Worked, fresh, in_line, step_all}
use Rattle.format.specs.Fixups.{Fixup, Site, fixups_at}

-- the images of the kept areas one behind the other, and the fixups in the order made
pub record State : Type 0 where
  pub values : List ℕ
  pub masks : List ℕ
  pub fixups : List Fixup

-- what the walk of one pair goes by
pub record Walk : Type 0 where
  pub site : Site
  pub start : ℕ
  pub size : ℕ
  pub fragments : List Fragment
  pub work : Work

-- an entry passed over
unfoldable pub passed_over : State → List Fixup → State
passed_over s xs = record { values = s.values; masks = s.masks; fixups = xs }

-- an entry written
unfoldable pub write : Walk → (entry position : ℕ) → State → List Fixup → State
write w entry position s xs = record {
  values = set s.values (w.start + position) (get_or w.work.values entry 0);
  masks = set s.masks (w.start + position) (get_or w.work.masks entry 0);
  fixups = xs;
}

-- n entries from an entry on, while the position is inside the area
unfoldable pub walk : Walk → (n entry position : ℕ) → State → Outcome State
walk w zero entry position s = fine s
walk w (suc n) entry position s =
    pick (ltb position w.size)
    (and_then (fixups_at w.site entry position 0 w.fragments s.fixups) (λ xs.
    let on = walk w n (suc entry) (suc position) (write w entry position s xs) in
    let off = walk w n (suc entry) position (passed_over s xs) in
    pick (eqb (get_or w.work.keeps entry 0) 1) on off))
    (fine s)

-- what the walk of a pair goes by, its fragments worked in
unfoldable pub walk_by : Tables → (place id start size : ℕ) → List Fragment → Worked → Walk
walk_by t place id start size fs d = record {
  site = record { tables = t; place = place; home = id; numbers = d.numbers };
  start = start;
  size = size;
  fragments = fs;
  work = d.work;
}

-- a pair whose area has an id, and an image of a size that starts at a place: 10 first, then the walk over the address entries and the content
unfoldable pub place_at : Form → Tables → (place id start size : ℕ) → Content → List Fragment → State → Outcome State
place_at fm t place id start size c fs s =
    and_then (fold (in_line fm.address_length (length c.bytes) place) 0 fs) (λ k.
    walk (walk_by t place id start size fs (step_all fm fs (fresh fm.address_length c.bytes))) (fm.address_length + length c.bytes) 0 c.address s)

-- the size of an area's image
unfoldable pub extent : List Area → ℕ → ℕ
extent areas i = total (take 1 (drop i areas))

-- one pair of a kept area
unfoldable pub place_line : Form → Tables → ℕ → ℕ → Content → Relocation → State → Outcome State
place_line fm t place id c r s = place_at fm t place id (offset t.areas r.area) (extent t.areas r.area) c r.fragments s

-- a pair of an area that is not kept has no effect
abbrev pub place_in : Form → Tables → ℕ → Content → Relocation → State → Option ℕ → Outcome State
place_in fm t place c r s none = fine s
place_in fm t place c r s (some id) = place_line fm t place id c r s

-- nor has a T and P pair
abbrev pub place_body : Form → Tables → ℕ → State → Pair → Outcome State
place_body fm t place s skipped = fine s
place_body fm t place s (placed c r) = place_in fm t place c r s (rank 0 t.areas r.area)

-- the same of a record
unfoldable pub place_pair : Form → Tables → State → Taken Pair → Outcome State
place_pair fm t s p = place_body fm t p.place s p.body

-- fresh images, and then pair by pair
unfoldable pub placing : Form → Tables → List (Taken Pair) → Outcome State
placing fm t ps =
    let n = total t.areas in
    fold (place_pair fm t) (record { values = replicate n 0; masks = replicate n 0; fixups = [] }) ps
