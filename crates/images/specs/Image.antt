-- What the walk for the images writes, in the definition's words.
-- Assumes nothing.
use Rattle.std.specs.Prelude.{ℕ, zero, suc, ◌+◌, ◌-◌, ◌≡◌, Bool, List, eqb, ltb, get_or, set, take, replicate}
use Rattle.format.specs.Lists.{pick}
use Rattle.format.specs.WorkLine.{padded}
use Rattle.format.specs.Known.{ones_of}
use Rattle.sites.specs.declared.Site.{Site}
use Rattle.images.specs.declared.image.Entered.{Entered}
use Rattle.image_byte.specs.Count.{Counted}

-- an image once m entries from an entry on were walked, while the position is inside the area; ws are the work line's values, or its masks
unfoldable pub image_walk : (start size : ℕ) (ws keeps : List ℕ) (m entry position : ℕ) → List ℕ → List ℕ
image_walk start size ws keeps zero entry position image = image
image_walk start size ws keeps (suc m) entry position image =
    let b = eqb (get_or keeps entry 0) 1 in
    let rest = image_walk start size ws keeps m (suc entry) (position + pick b 1 0) (pick b (set image (start + position) (get_or ws entry 0)) image) in
    pick (ltb position size) rest image

unfoldable pub image_of : Site → (ws keeps : List ℕ) → List ℕ → List ℕ
image_of s ws keeps image = image_walk s.start s.size ws keeps (s.line.width + s.line.bytes) 0 s.line.address image

-- an entry: kept, it is written and the position grows by one; else nothing changes
pub record Wrote (keep at v m count : ℕ) (vs ms : List ℕ) (r : Entered) (vs' ms' : List ℕ) : Type 0 where
  pub grows : r.grows ≡ pick (eqb keep 1) 1 0
  pub values : vs' ≡ pick (eqb keep 1) (set vs at v) vs
  pub masks : ms' ≡ pick (eqb keep 1) (set ms at m) ms
  pub counted : Counted 1 count ms r.count ms'

-- both images, and the count over them
pub record Imaged (s : Site) (wv wm wk : List ℕ) (count : ℕ) (vs ms : List ℕ) (r : ℕ) (vs' ms' : List ℕ) : Type 0 where
  pub values : vs' ≡ image_of s wv wk vs
  pub masks : ms' ≡ image_of s wm wk ms
  pub moves : r + ones_of ms ≡ count + ones_of ms'

-- the same with the work line of a pair without fragments: its content with full masks
abbrev pub plain_of : Site → List ℕ → List ℕ → List ℕ
plain_of s ys image = image_of s (padded s.line.width s.line.bytes ys) (padded s.line.width s.line.bytes (replicate s.line.bytes 1)) image

unfoldable pub plain_values : Site → (bs image : List ℕ) → List ℕ
plain_values s bs image = plain_of s (take s.line.bytes bs) image

unfoldable pub plain_masks : Site → (image : List ℕ) → List ℕ
plain_masks s image = plain_of s (replicate s.line.bytes 255) image

pub record Plain (s : Site) (bs : List ℕ) (count : ℕ) (vs ms : List ℕ) (r : ℕ) (vs' ms' : List ℕ) : Type 0 where
  pub values : vs' ≡ plain_values s bs vs
  pub masks : ms' ≡ plain_masks s ms
  pub moves : r + ones_of ms ≡ count + ones_of ms'

-- known bits moved as the ones of masks move: where they were an area's, and only its masks have changed, they are its known bits then
unfoldable pub moved : (known : ℕ) (ms ms' : List ℕ) → ℕ
moved known ms ms' = (known + ones_of ms') - ones_of ms

-- both images, if the numbers fit, and else nothing has changed; and the known bits then
pub record Written (fit : Bool) (vs₁ ms₁ : List ℕ) (known : ℕ) (vs ms : List ℕ) (r : ℕ) (vs' ms' : List ℕ) : Type 0 where
  pub answer : r ≡ moved known ms ms'
  pub values : vs' ≡ pick fit vs₁ vs
  pub masks : ms' ≡ pick fit ms₁ ms
