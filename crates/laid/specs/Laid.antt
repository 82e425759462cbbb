-- Code laid at chosen addresses. Each fragment's bytes are replaced by the address that it refers to plus its number, all else
-- is the content.
-- Assumes nothing.
use Rattle.std.specs.Prelude.{ℕ, zero, suc, ◌+◌, ◌-◌, ◌%◌, ◌/◌, Bool, true, false, List, [], ◌∷◌, ◌++◌, get_or, take, drop, replicate, eqb}
use Rattle.std.proofs.Math.Option.{Option, none, some}
use Rattle.std.proofs.lemmas.List.Edits.{sets}
use Rattle.format.specs.Lists.{pick}
use Rattle.format.specs.Number.{join}
use Rattle.format.specs.Header.{Form}
use Rattle.format.specs.Pairs.{Fragment, Content, Relocation, Pair, skipped, placed}
use Rattle.format.specs.Mode.{on_site}
use Rattle.format.specs.Outcome.{Outcome, fine, refused}
use Rattle.format.specs.Records.{Taken}
use Rattle.format.specs.Tables.{Tables, total, rank, offset}
use Rattle.format.specs.Fixups.{Reference, Fixup, reference}
use Rattle.format.specs.Placing.{extent}
use Rattle.format.specs.Target.{wrap_add}

-- The addresses chosen: of kept areas by id, and of outside symbols by the place of their names in the text. Id and place are what a
-- fixup's row tells of what it refers to.
pub record Chosen : Type 0 where
  pub areas : List ℕ
  pub outside : ℕ → ℕ

-- the address of a kept area, of 64 bits
abbrev pub area_address : Chosen → ℕ → ℕ
area_address ch id = get_or ch.areas id 0

-- the address that is referred to: of a Def its area's plus its value, of an outside symbol the chosen one plus its value, of an area its own
unfoldable pub referred : Chosen → Reference → ℕ
referred ch r = wrap_add (pick (eqb r.outside 1) (ch.outside r.what) (area_address ch r.what)) r.value

-- a fixup's own address
unfoldable pub own_address : Chosen → Fixup → ℕ
own_address ch x = wrap_add (area_address ch x.home) x.position

-- a number modulo 256^n as n bytes, the lowest first or last
unfoldable pub low_first : ℕ → ℕ → List ℕ
low_first zero v = []
low_first (suc n) v = v % 256 ∷ low_first n (v / 256)

unfoldable pub low_last : ℕ → ℕ → List ℕ
low_last zero v = []
low_last (suc n) v = low_last n (v / 256) ++ v % 256 ∷ []

-- in the header's byte order
unfoldable pub in_bytes : Bool → ℕ → ℕ → List ℕ
in_bytes true n v = low_last n v
in_bytes false n v = low_first n v

-- where a fragment's bytes begin in the content
unfoldable pub site_of : Form → Fragment → ℕ
site_of fm f = f.entry - fm.address_length

-- its number: what the content has there
unfoldable pub number_in : Form → List ℕ → Fragment → ℕ
number_in fm bs f = join fm.big (take (on_site f.mode) (drop (site_of fm f) bs))

-- the bytes of a fragment: the address plus its number; zeros where it refers to no kept area and no outside symbol. A symbol index past the table
-- is not needed in an accepted module: there no byte of the fragment is written.
abbrev pub field_to : Form → Chosen → List ℕ → Fragment → Outcome (Option Reference) → List ℕ
field_to fm ch bs f (fine (some r)) = in_bytes fm.big (on_site f.mode) (wrap_add (referred ch r) (number_in fm bs f))
field_to fm ch bs f (fine none) = replicate (on_site f.mode) 0
field_to fm ch bs f (refused n p) = replicate (on_site f.mode) 0

unfoldable pub field : Form → Tables → Chosen → ℕ → List ℕ → Fragment → List ℕ
field fm t ch place bs f = field_to fm ch bs f (reference t place f)

-- the fragments' bytes laid over the content xs; the numbers are taken from bs
unfoldable pub laid_on : Form → Tables → Chosen → ℕ → List ℕ → List Fragment → List ℕ → List ℕ
laid_on fm t ch place bs [] xs = xs
laid_on fm t ch place bs (f ∷ fs) xs = laid_on fm t ch place bs fs (sets xs (site_of fm f) (field fm t ch place bs f))

-- a pair's content with each fragment's bytes replaced
unfoldable pub laid_content : Form → Tables → Chosen → ℕ → Content → Relocation → List ℕ
laid_content fm t ch place c r = laid_on fm t ch place c.bytes r.fragments c.bytes

-- the part of it that lies inside its area, stored in the images
unfoldable pub laid_line : Form → Tables → Chosen → ℕ → Content → Relocation → List ℕ → List ℕ
laid_line fm t ch place c r image =
    sets image (offset t.areas r.area + c.address) (take (extent t.areas r.area - c.address) (laid_content fm t ch place c r))

-- a pair of an area that is not kept has no effect, nor has a T and P pair
abbrev pub laid_in : Form → Tables → Chosen → ℕ → Content → Relocation → List ℕ → Option ℕ → List ℕ
laid_in fm t ch place c r image none = image
laid_in fm t ch place c r image (some id) = laid_line fm t ch place c r image

abbrev pub laid_by : Form → Tables → Chosen → ℕ → List ℕ → Pair → List ℕ
laid_by fm t ch place image skipped = image
laid_by fm t ch place image (placed c r) = laid_in fm t ch place c r image (rank 0 t.areas r.area)

unfoldable pub laid_pairs : Form → Tables → Chosen → List (Taken Pair) → List ℕ → List ℕ
laid_pairs fm t ch [] image = image
laid_pairs fm t ch (p ∷ ps) image = laid_pairs fm t ch ps (laid_by fm t ch p.place image p.body)

-- the laid bytes of all kept areas, one behind the other as the images are; 0 at a position that no pair writes
unfoldable pub laid_bytes : Form → Tables → Chosen → List (Taken Pair) → List ℕ
laid_bytes fm t ch ps = laid_pairs fm t ch ps (replicate (total t.areas) 0)
