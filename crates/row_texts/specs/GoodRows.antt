-- The test of rows before they are written: what `Good` asks, row by row, that symbols stand in the order of their areas, and that all lies in what was lent.
-- Assumes nothing.
use Rattle.std.specs.Prelude.{suc, zero, ℕ, ◌*◌, ◌+◌, ◌/◌, ◌^◌, ◌≡◌, refl, Bool, false, true, ◌&&◌, List, [], ◌++◌, ◌∷◌, get_or, length, leb, ltb}
use Rattle.format.specs.Lists.{pick}
use Rattle.format.specs.Bytes.{is_blank, is_cr_or_lf, is_name_byte, is_white}
use Rattle.format.specs.Header.{Form}
use Rattle.format.specs.Pairs.{Fragment}
use Rattle.laws.specs.Rows.{area_at, symbol_at}
use Rattle.row_parts.specs.Parts.{name_in, part_of}
use Rattle.relocation_out.specs.RelocationOut.{row_at}
use Rattle.row_texts.specs.RowRecords.{Rows, column}

-- n numbers from i on that pass a test
unfoldable pub all : (ℕ → Bool) → (i n : ℕ) → Bool
all p i zero = true
all p i (suc n) = let rest = all p (suc i) n in pick (p i) rest false

-- a byte of a name, below 128
unfoldable pub good_byte : ℕ → Bool
good_byte b = pick (ltb b 128) (is_name_byte b) false

unfoldable pub good_bytes : List ℕ → Bool
good_bytes [] = true
good_bytes (b ∷ bs) = let rest = good_bytes bs in pick (good_byte b) rest false

-- one byte or more
unfoldable pub good_name : List ℕ → Bool
good_name [] = false
good_name (b ∷ bs) = good_bytes (b ∷ bs)

unfoldable pub good_area : (text areas : List ℕ) → ℕ → Bool
good_area text areas i = good_name (name_in text (area_at areas i).name)

-- n symbols from the j-th on, where k areas stand before them, of so many
unfoldable pub good_symbols : (text : List ℕ) (count : ℕ) (symbols : List ℕ) → (k j n : ℕ) → Bool
good_symbols text count symbols k j zero = leb k count
good_symbols text count symbols k j (suc n) =
    let rest = good_symbols text count symbols (column symbols j) (suc j) n in
    pick (leb k (column symbols j)) (pick (good_name (name_in text (symbol_at symbols j).name)) rest false) false

unfoldable pub good_fragment : (fragments : List ℕ) → ℕ → Bool
good_fragment fragments i = let x = row_at fragments i in pick (ltb x.mode 2048) (pick (ltb x.entry 256) (ltb x.index 65536) false) false

-- n fragments from the first on, inside of what was lent
unfoldable pub good_fragments : (fragments : List ℕ) → (first n : ℕ) → Bool
good_fragments fragments first n = pick (leb (first + n) (length fragments / 3)) (all (good_fragment fragments) first n) false

-- an address of so many bytes, an index of two, content inside of what was lent, good fragments
unfoldable pub good_pair : (address_length : ℕ) (pairs : List ℕ) (content_length : ℕ) (fragments : List ℕ) → ℕ → Bool
good_pair a pairs n fragments i =
    pick (ltb (get_or pairs (7 * i + 1) 0) (256 ^ a))
    (pick (ltb (get_or pairs (7 * i + 2) 0) 65536)
    (pick (leb (get_or pairs (7 * i + 3) 0 + get_or pairs (7 * i + 4) 0) n)
    (good_fragments fragments (get_or pairs (7 * i + 5) 0) (get_or pairs (7 * i + 6) 0)) false) false) false

unfoldable pub good_pairs : (address_length : ℕ) (pairs : List ℕ) (count content_length : ℕ) (fragments : List ℕ) → Bool
good_pairs a pairs count n fragments = pick (leb count (length pairs / 7)) (all (good_pair a pairs n fragments) 0 count) false

-- all of them
unfoldable pub good_rows : Form → Rows → Bool
good_rows f r =
    pick (all (good_area r.text r.areas) 0 r.area_count)
    (pick (good_symbols r.text r.area_count r.symbols 0 0 r.symbol_count)
    (good_pairs f.address_length r.pairs r.pair_count (length r.content) r.fragments) false) false

-- ------------------------------------------------------------------ small rows, by computing

-- the row of a Def named a, of value 0, behind so many areas
abbrev pub symbol : ℕ → List ℕ
symbol k = 0 ∷ 1 ∷ 0 ∷ 0 ∷ k ∷ []

-- the row of a pair at address 0 of the first area, with no fragments and so many content bytes from one on
abbrev pub pair : (first count : ℕ) → List ℕ
pair first count = 0 ∷ 0 ∷ 0 ∷ first ∷ count ∷ 0 ∷ 0 ∷ []

-- two symbols of a module with one area: the first before it and the second behind it, but not the other way round, and none behind a second area
pub in_order : good_symbols (97 ∷ []) 1 (symbol 0 ++ symbol 1) 0 0 2 ≡ true
unfolding good_symbols column good_name good_bytes good_byte symbol_at part_of is_name_byte is_white is_blank is_cr_or_lf
in_order = refl

pub out_of_order : good_symbols (97 ∷ []) 1 (symbol 1 ++ symbol 0) 0 0 2 ≡ false
unfolding good_symbols column good_name good_bytes good_byte symbol_at part_of is_name_byte is_white is_blank is_cr_or_lf
out_of_order = refl

pub past-the-areas : good_symbols (97 ∷ []) 1 (symbol 2) 0 0 1 ≡ false
unfolding good_symbols column good_name good_bytes good_byte symbol_at part_of is_name_byte is_white is_blank is_cr_or_lf
past-the-areas = refl

-- a pair of two content bytes where two are lent: from the first on, but not from the second on
pub content-inside : good_pair 2 (pair 0 2) 2 [] 0 ≡ true
unfolding good_pair good_fragments all
content-inside = refl

pub content-past : good_pair 2 (pair 1 2) 2 [] 0 ≡ false
unfolding good_pair good_fragments all
content-past = refl
