-- T and R pairs laid over a buffer, by the rows of the tables and the chosen addresses.
-- Assumes nothing.
use Rattle.std.specs.Prelude.{ℕ, zero, suc, ◌+◌, ◌-◌, ◌*◌, ◌≤◌, ◌≡◌, Bool, ◌&&◌, List, [], ◌∷◌, length, get_or, take, drop, ltb, leb}
use Rattle.std.proofs.Math.Option.{Option}
use Rattle.std.proofs.lemmas.List.Edits.{sets}
use Rattle.format.specs.Lists.{pick}
use Rattle.format.specs.Pairs.{Fragment}
use Rattle.laws.specs.Rows.{from}
use Rattle.homes.specs.declared.Home.{Home}
use Rattle.homes.specs.Home.{home_at}
use Rattle.sites.specs.declared.Filled.{Filled}
use Rattle.references.specs.References.{refers_in}
use Rattle.referred_address.specs.Address.{address_in}
use Rattle.record_rows.specs.RecordRows.{pair_columns}
use Rattle.record_parts.specs.Parts.{fragment_from}
use Rattle.laid_field.specs.Field.{field_by}
use Rattle.laid_rows.specs.declared.span.Row.{Row}
use Rattle.laid_rows.specs.declared.span.Span.{Span}

-- the rows of the tables, how many there are, and the addresses chosen for kept areas and for symbols
pub record Around : Type 0 where
  pub areas : List ℕ
  pub symbols : List ℕ
  pub filled : Filled
  pub chosen : List ℕ
  pub outside : List ℕ

abbrev pub around : (areas symbols : List ℕ) → Filled → (chosen outside : List ℕ) → Around
around areas symbols filled chosen outside = record { areas = areas; symbols = symbols; filled = filled; chosen = chosen; outside = outside }

-- the address that a fragment refers to
unfoldable pub address_for : Around → Fragment → Option ℕ
address_for w f = address_in w.chosen w.outside f.index (refers_in w.areas w.symbols w.filled f f.entry 0)

-- fragments laid over a content xs; the numbers are taken from bs
unfoldable pub laid_over : Bool → ℕ → Around → List ℕ → List Fragment → List ℕ → List ℕ
laid_over big width w bs [] xs = xs
laid_over big width w bs (f ∷ fs) xs = laid_over big width w bs fs (sets xs (f.entry - width) (field_by big (f.entry - width) bs f.mode (address_for w f)))

-- no bytes
abbrev pub no_span : Span
no_span = record { begin = 0; end = 0; first = 0; many = 0; at = 0; limit = 0 }

-- the numbers of the k-th row
unfoldable pub row_at : (pairs : List ℕ) (k : ℕ) → Row
row_at pairs k = record {
  address = get_or pairs (pair_columns * k + 1) 0;
  area = get_or pairs (pair_columns * k + 2) 0;
  begin = get_or pairs (pair_columns * k + 3) 0;
  bytes = get_or pairs (pair_columns * k + 4) 0;
  first = get_or pairs (pair_columns * k + 5) 0;
  many = get_or pairs (pair_columns * k + 6) 0;
}

-- a row's bytes and fragments, where they go and how many have room there; none where the area is not kept or ends before them, the image begins
-- past its bound, there are more than 256 bytes, or they do not lie in the content
unfoldable pub span_by : Row → Home → (room : ℕ) → Span
span_by r h room =
    pick (ltb r.address h.size && (leb h.start 65536 && (leb r.bytes 256 && leb (r.begin + r.bytes) room)))
    (record { begin = r.begin; end = r.begin + r.bytes; first = r.first; many = r.many; at = h.start + r.address; limit = h.size - r.address })
    no_span

-- what a caller needs to know of it besides
pub record SpannedBy (r : Row) (h : Home) (room : ℕ) (s : Span) : Type 0 where
  pub is : s ≡ span_by r h room
  pub begins : s.begin ≤ s.end
  pub ends : s.end ≤ room
  pub few : s.end - s.begin ≤ 256
  pub first-low : s.first ≤ 4294967296
  pub many-low : s.many ≤ 4294967296

-- the same of the k-th row
unfoldable pub span_of : (areas : List ℕ) (na : ℕ) (pairs : List ℕ) (room k : ℕ) → Span
span_of areas na pairs room k = span_by (row_at pairs k) (home_at areas na (row_at pairs k).area) room

abbrev pub Spanned : (areas : List ℕ) (na : ℕ) (pairs : List ℕ) (room k : ℕ) → Span → Type 0
Spanned areas na pairs room k s = SpannedBy (row_at pairs k) (home_at areas na (row_at pairs k).area) room s

-- the bytes and fragments of a span laid
unfoldable pub span_over : Bool → ℕ → Around → (content fragments : List ℕ) → Span → List ℕ → List ℕ
span_over big width w content fragments s out =
    let bs = take (s.end - s.begin) (drop s.begin content) in
    sets out s.at (take s.limit (laid_over big width w bs (from (fragment_from fragments) s.first s.many) bs))

-- the k-th row laid
unfoldable pub row_over : Bool → ℕ → Around → (pairs content fragments : List ℕ) → ℕ → List ℕ → List ℕ
row_over big width w pairs content fragments k out = span_over big width w content fragments (span_of w.areas w.filled.areas pairs (length content) k) out

-- n rows from the k-th on
unfoldable pub rows_over : Bool → ℕ → Around → (pairs content fragments : List ℕ) → (k n : ℕ) → List ℕ → List ℕ
rows_over big width w pairs content fragments k zero out = out
rows_over big width w pairs content fragments k (suc n) out = rows_over big width w pairs content fragments (suc k) n (row_over big width w pairs content fragments k out)

-- a pair's bytes with its fragments laid over them, at the start of what is lent
pub record PartIs (big : Bool) (width : ℕ) (w : Around) (bs : List ℕ) (fs : List Fragment) (part : List ℕ) : Type 0 where
  pub lays : length bs ≤ 256 → take (length bs) part ≡ laid_over big width w bs fs bs

-- a pair's bytes laid from a place on, as far as a limit
pub record PartLaid (big : Bool) (width : ℕ) (w : Around) (bs : List ℕ) (fs : List Fragment) (at limit : ℕ) (out out' : List ℕ) : Type 0 where
  pub lays : length bs ≤ 256 → out' ≡ sets out at (take limit (laid_over big width w bs fs bs))
