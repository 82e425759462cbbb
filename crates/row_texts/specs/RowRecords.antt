-- The records that rows of numbers stand for: areas, symbols, T and R records, with the text that the names lie in.
-- Assumes nothing.
use Rattle.std.specs.Prelude.{suc, zero, ℕ, ◌*◌, ◌+◌, ◌-◌, List, [], ◌++◌, ◌∷◌, get_or}
use Rattle.format.specs.Header.{Form}
use Rattle.laws.specs.Rows.{area_at, from, symbol_at}
use Rattle.row_parts.specs.Parts.{name_in, part_of}
use Rattle.written.specs.Named.{Named, NamedEntry, NamedPair, named_area, named_symbol}
use Rattle.written.specs.Writing.{written}
use Rattle.relocation_out.specs.RelocationOut.{row_at}

-- what is lent to be written, and how many areas, symbols and pairs of it
pub record Rows : Type 0 where
  pub text : List ℕ
  pub areas : List ℕ
  pub area_count : ℕ
  pub symbols : List ℕ
  pub symbol_count : ℕ
  pub pairs : List ℕ
  pub pair_count : ℕ
  pub content : List ℕ
  pub fragments : List ℕ

abbrev pub lent : (text areas : List ℕ) (area_count : ℕ) (symbols : List ℕ) (symbol_count : ℕ) (pairs : List ℕ) (pair_count : ℕ) (content fragments : List ℕ) → Rows
lent t as' na ss ns ps np bs fs =
    record { text = t; areas = as'; area_count = na; symbols = ss; symbol_count = ns; pairs = ps; pair_count = np; content = bs; fragments = fs }

-- the i-th area, and the j-th symbol; a name that does not lie in the text is empty
unfoldable pub area_entry : (text areas : List ℕ) → ℕ → NamedEntry
area_entry text areas i = let a = area_at areas i in named_area (name_in text a.name) a.size a.flags a.addr

unfoldable pub symbol_entry : (text symbols : List ℕ) → ℕ → NamedEntry
symbol_entry text symbols j = let s = symbol_at symbols j in named_symbol (name_in text s.name) s.ref s.value

-- how many areas stand before the j-th symbol, by its row
unfoldable pub column : (symbols : List ℕ) → ℕ → ℕ
column symbols j = get_or symbols (5 * j + 4) 0

-- The lines of n symbols from the j-th on, where k areas stand before them: before a symbol the areas up to its own, behind the last one the areas that are left.
unfoldable pub entries_from : (text areas : List ℕ) (count : ℕ) (symbols : List ℕ) → (k j n : ℕ) → List NamedEntry
entries_from text areas count symbols k j zero = from (area_entry text areas) k (count - k)
entries_from text areas count symbols k j (suc n) =
    from (area_entry text areas) k (column symbols j - k) ++ symbol_entry text symbols j ∷ entries_from text areas count symbols (column symbols j) (suc j) n

-- the i-th pair: the T's place is no part of it
unfoldable pub pair_at : (pairs content fragments : List ℕ) → ℕ → NamedPair
pair_at pairs content fragments i = record {
  content = record { address = get_or pairs (7 * i + 1) 0; bytes = part_of content (get_or pairs (7 * i + 3) 0) (get_or pairs (7 * i + 4) 0) };
  relocation = record { area = get_or pairs (7 * i + 2) 0; fragments = from (row_at fragments) (get_or pairs (7 * i + 5) 0) (get_or pairs (7 * i + 6) 0) };
}

-- all records
unfoldable pub records_of : Rows → Named
records_of r = record {
  entries = entries_from r.text r.areas r.area_count r.symbols 0 0 r.symbol_count;
  pairs = from (pair_at r.pairs r.content r.fragments) 0 r.pair_count;
}

-- the text that is written from them
unfoldable pub text_of : Form → Rows → List ℕ
text_of f r = written f (records_of r)
