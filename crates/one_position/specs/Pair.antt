-- What a pair out of rows of records leaves at a position of an area: what is known of the question and of the pair, and what is answered.
-- Assumes nothing.
use Rattle.std.specs.Prelude.{ℕ, ◌+◌, ◌*◌, ◌≤◌, ◌<◌, ◌≡◌, Bool, List, length, get_or, take}
use Rattle.std.proofs.Math.Option.{Option, none, some}
use Rattle.format.specs.Header.{Form}
use Rattle.format.specs.Outcome.{Outcome, fine, and_then, fold}
use Rattle.format.specs.Pairs.{Content, Fragment, Relocation, placed}
use Rattle.format.specs.Placing.{extent}
use Rattle.format.specs.Tables.{Tables, last_index, offset, rank, total}
use Rattle.format.specs.WorkLine.{fresh, in_line, step_all}
use Rattle.laws.specs.Rows.{from}
use Rattle.order.specs.Writes.{Cell, cell_at, writes}
use Rattle.homes.specs.declared.Home.{Home}
use Rattle.homes.specs.Home.{home_by_of}
use Rattle.one_cell.specs.Cell.{Left, left_at, told}
use Rattle.work.specs.Work.{form_of}
use Rattle.sites.specs.declared.Line.{Line}
use Rattle.one_cell.specs.declared.Cell as code
use Rattle.record_rows.specs.RecordRows.{fragment_columns, pair_columns}
use Rattle.record_parts.specs.Parts.{fragment_from, pair_from}

-- a cell without its place
abbrev pub left_of : Option Cell → Option Left
left_of none = none
left_of (some c) = some (record { value = c.value; mask = c.mask })

-- what is known of the question: the header's order and address length, and the home of the area that is asked about
pub record Asked (fm : Form) (t : Tables) (a : ℕ) (big : Bool) (width : ℕ) (h : Home) : Type 0 where
  pub order : big ≡ fm.big
  pub address : width ≡ fm.address_length
  pub narrow : width ≤ 4
  pub id : ℕ
  pub ranked : rank 0 t.areas a ≡ some id
  pub home : h ≡ home_by_of a (offset t.areas a) (extent t.areas a) (some id)
  pub sizes : total t.areas ≤ 65536

-- 10 is not given
pub record InLine (fm : Form) (place : ℕ) (c : Content) (r : Relocation) : Type 0 where
  pub many : ℕ
  pub is : fold (in_line fm.address_length (length c.bytes) place) 0 r.fragments ≡ fine many

-- what is known of a pair that is not refused: 7 and 8 are not given, and where its area is kept, neither is 10
pub record Sound (fm : Form) (t : Tables) (place : ℕ) (c : Content) (r : Relocation) : Type 0 where
  pub few_bytes : length c.bytes ≤ 256
  pub few-fragments : length r.fragments ≤ 64
  pub in-line : (id : ℕ) → rank 0 t.areas r.area ≡ some id → InLine fm place c r

-- 10, or what fragments leave at a position
unfoldable pub left_from : Line → (size : ℕ) (bs : List ℕ) (fs : List Fragment) (radix want : ℕ) → Outcome (Option Left)
left_from l size bs fs radix want =
    and_then (fold (in_line l.width l.bytes l.place) 0 fs) (λ k.
    fine (left_at size (step_all (form_of radix l) fs (fresh l.width (take l.bytes bs))).work (l.width + l.bytes) 0 l.address want))

-- a pair's numbers fit together with the home of its area
pub record Fair (l : Line) (h : Home) (bs : List ℕ) : Type 0 where
  pub area : h.area ≡ l.area
  pub narrow : l.width ≤ 4
  pub content : l.bytes ≤ 256
  pub lent : l.bytes ≤ length bs
  pub fragments : l.fragments ≤ 64
  pub sizes : h.start + h.size ≤ 65536
  pub id : ℕ
  pub ranked : last_index h.id ≡ some id

-- a pair's bytes, and the rows of its fragments from a place on
pub record LeftBy (l : Line) (h : Home) (bs fragments : List ℕ) (row want : ℕ) (r : code.Cell) : Type 0 where
  pub says : Fair l h bs → (k radix : ℕ) → row ≡ fragment_columns * k → told l.place r ≡ some (left_from l h.size bs (from (fragment_from fragments) k l.fragments) radix want)

-- the row at a place stands for a pair, whose bytes lie in the content
pub record Stands (pairs content fragments : List ℕ) (p place : ℕ) (c : Content) (r : Relocation) : Type 0 where
  pub index : ℕ
  pub row : p ≡ pair_columns * index
  pub pair : pair_from pairs content fragments index ≡ record { place = place; end = 0; body = placed c r }
  pub inside : get_or pairs (p + 3) 0 + get_or pairs (p + 4) 0 ≤ length content
  pub counted : get_or pairs (p + 4) 0 ≡ length c.bytes

-- what the pair at a row leaves at a position of the area that is asked about; its place in the images is counted from the first kept area's first byte
pub record Tells (pairs content fragments : List ℕ) (p : ℕ) (big : Bool) (width : ℕ) (h : Home) (want : ℕ) (r : code.Cell) : Type 0 where
  pub tells : (fm : Form) (t : Tables) (a place : ℕ) (c : Content) (l : Relocation) → Asked fm t a big width h → Stands pairs content fragments p place c l → Sound fm t place c l
      → want < extent t.areas a
      → told place r ≡ some (fine (left_of (cell_at (writes fm t (record { place = place; end = 0; body = placed c l })) (offset t.areas a + want))))
