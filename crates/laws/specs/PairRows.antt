-- What placing a pair does, by the pair alone: the fixup rows that it makes, the image that its walk goes over, and the rows of all pairs and of one
-- area's.
-- Assumes nothing.
use Rattle.std.specs.Prelude.{ℕ, zero, suc, ◌+◌, List, [], ◌∷◌, ◌++◌, ◌&&◌, length, get_or, set, eqb, ltb}
use Rattle.std.proofs.Math.Option.{Option, none, some}
use Rattle.format.specs.Lists.{pick}
use Rattle.format.specs.Header.{Form}
use Rattle.format.specs.Pairs.{Fragment, Content, Relocation, Pair, skipped, placed}
use Rattle.format.specs.Outcome.{Outcome, fine, refused}
use Rattle.format.specs.Mode.{gives}
use Rattle.format.specs.Records.{Taken}
use Rattle.format.specs.Tables.{Tables, rank, offset}
use Rattle.format.specs.Fixups.{Reference, Fixup, Site, reference, fixup_of}
use Rattle.format.specs.Placing.{Walk, walk_by, extent}
use Rattle.format.specs.WorkLine.{step_all, fresh}

-- the row of a fragment, if it refers to something
abbrev pub row_to : Site → (i position : ℕ) → Fragment → Outcome (Option Reference) → List Fixup
row_to w i position f (fine (some r)) = fixup_of w i position f r ∷ []
row_to w i position f (fine none) = []
row_to w i position f (refused n p) = []

-- the rows that an entry makes
unfoldable pub rows_at : Site → (entry position i : ℕ) → List Fragment → List Fixup
rows_at w entry position i [] = []
rows_at w entry position i (f ∷ fs) =
    pick (eqb f.entry entry && gives f.mode) (row_to w i position f (reference w.tables w.place f)) [] ++ rows_at w entry position (suc i) fs

-- the rows that a walk makes
unfoldable pub rows_of : Walk → (n entry position : ℕ) → List Fixup
rows_of w zero entry position = []
rows_of w (suc n) entry position =
    let on = rows_of w n (suc entry) (suc position) in
    let off = rows_of w n (suc entry) position in
    pick (ltb position w.size) (rows_at w.site entry position 0 w.fragments ++ pick (eqb (get_or w.work.keeps entry 0) 1) on off) []

-- an image that a walk has gone over; xs are the work line's values, or its masks
unfoldable pub image_of : Walk → List ℕ → (n entry position : ℕ) → List ℕ → List ℕ
image_of w xs zero entry position image = image
image_of w xs (suc n) entry position image =
    let on = image_of w xs n (suc entry) (suc position) (set image (w.start + position) (get_or xs entry 0)) in
    let off = image_of w xs n (suc entry) position image in
    pick (ltb position w.size) (pick (eqb (get_or w.work.keeps entry 0) 1) on off) image

-- what the walk of a pair of a kept area goes by
unfoldable pub walk_of : Form → Tables → ℕ → ℕ → Content → Relocation → Walk
walk_of fm t place id c r =
    walk_by t place id (offset t.areas r.area) (extent t.areas r.area) r.fragments (step_all fm r.fragments (fresh fm.address_length c.bytes))

-- the rows that a pair makes, and the id of the area where it makes them
abbrev pub rows_in : Form → Tables → ℕ → Content → Relocation → Option ℕ → List Fixup
rows_in fm t place c r none = []
rows_in fm t place c r (some id) = rows_of (walk_of fm t place id c r) (fm.address_length + length c.bytes) 0 c.address

abbrev pub pair_rows : Form → Tables → ℕ → Pair → List Fixup
pair_rows fm t place skipped = []
pair_rows fm t place (placed c r) = rows_in fm t place c r (rank 0 t.areas r.area)

unfoldable pub all_rows : Form → Tables → List (Taken Pair) → List Fixup
all_rows fm t [] = []
all_rows fm t (p ∷ ps) = pair_rows fm t p.place p.body ++ all_rows fm t ps

-- the rows that a pair makes if its area has this id
abbrev pub rows_for : Form → Tables → ℕ → ℕ → Content → Relocation → Option ℕ → List Fixup
rows_for fm t id place c r none = []
rows_for fm t id place c r (some h) = pick (eqb h id) (rows_in fm t place c r (some h)) []

abbrev pub pair_rows_for : Form → Tables → ℕ → ℕ → Pair → List Fixup
pair_rows_for fm t id place skipped = []
pair_rows_for fm t id place (placed c r) = rows_for fm t id place c r (rank 0 t.areas r.area)

unfoldable pub area_rows : Form → Tables → ℕ → List (Taken Pair) → List Fixup
area_rows fm t id [] = []
area_rows fm t id (p ∷ ps) = pair_rows_for fm t id p.place p.body ++ area_rows fm t id ps
