-- The tests of rows say what `Good` says, and that all lies in what was lent.
-- Assumes nothing.
use Prim.Native.Nat.{suc, zero, ℕ, ◌*◌, ◌+◌, ◌-◌, ◌/◌, ◌<◌, ◌^◌, ◌≤◌}
use mathlib.Core.Path.{◌≡◌, ap, refl, sym, ◌∙◌}
use mathlib.Core.Bool.{Bool, false, false≢true, true}
use mathlib.Core.List.{List, [], ◌∷◌}
use mathlib.Core.Option.{Option, none, some}
use native.Mathlib.Omega.{arith}
use lib.ListN.{drop, get_or, length, take}
use lib.Dec.{eqb, leb, ltb}
use borrow.Author.Tests.{eqb-false, eqb-true, le-leb, leb-true, lt-ltb, ltb-true}
use Rattle.format.specs.Lists.{pick}
use Rattle.format.specs.Bytes.{is_name_byte}
use Rattle.format.specs.Pairs.{Fragment}
use Rattle.laws.specs.Rows.{area_at, from, given_by, symbol_at}
use Rattle.manual.specs.Each.{Each, IsByte}
use Rattle.manual.specs.WrittenEntries.{IsName}
use Rattle.manual.specs.WrittenPairs.{Writable}
use Rattle.row_parts.specs.Parts.{name_in, part_of}
use Rattle.written.specs.Named.{NamedEntry, NamedPair, name_of}
use Rattle.written.specs.Writing.{GoodAddr, GoodEntry, GoodPair}
use Rattle.relocation_out.specs.RelocationOut.{row_at}
use Rattle.row_texts.specs.RowRecords.{Rows, area_entry, column, pair_at, symbol_entry}
use Rattle.row_texts.specs.GivesBack.{PairInside, Standing, standing_at}
use Rattle.row_texts.specs.GoodRows.{all, good_area, good_byte, good_bytes, good_fragment, good_fragments, good_name, good_pair, good_pairs, good_symbols}
use Rattle.row_texts.proofs.Lines.{Ordered}

-- both of two tests
pub both_of : (b c : Bool) → pick b c false ≡ true → (b ≡ true) × (c ≡ true)
both_of true c h = (refl, h)
both_of false c h = absurd (false≢true h)

pub both : (b c : Bool) → b ≡ true → c ≡ true → pick b c false ≡ true
both b c h i = rw (h, i)

abbrev Low : ℕ → Type 0
Low b = b < 128

-- a line of group one that can be written, its name in bytes below 128
abbrev pub Fine : NamedEntry → Type 0
Fine e = GoodEntry e × Each Low (name_of e)

-- names
byte-says : (b : ℕ) → good_byte b ≡ true → (b < 128) × (is_name_byte b ≡ true)
unfolding good_byte
byte-says b h = let w = both_of (ltb b 128) (is_name_byte b) h in (ltb-true b 128 w.0, w.1)

byte-is : (b : ℕ) → b < 128 → is_name_byte b ≡ true → good_byte b ≡ true
unfolding good_byte
byte-is b h i = both (ltb b 128) (is_name_byte b) (lt-ltb b 128 h) i

bytes-say : (bs : List ℕ) → good_bytes bs ≡ true → Each (λ b. is_name_byte b ≡ true) bs × Each Low bs
unfolding good_bytes
bytes-say [] h = (tt, tt)
bytes-say (b ∷ bs) h =
    let w = both_of (good_byte b) (good_bytes bs) h in
    let x = byte-says b w.0 in
    let y = bytes-say bs w.1 in
    ((x.1, y.0), (x.0, y.1))

bytes-are : (bs : List ℕ) → Each (λ b. is_name_byte b ≡ true) bs → Each Low bs → good_bytes bs ≡ true
unfolding good_bytes
bytes-are [] h i = refl
bytes-are (b ∷ bs) h i = both (good_byte b) (good_bytes bs) (byte-is b i.0 h.0) (bytes-are bs h.1 i.1)

pub name-says : (w : List ℕ) → good_name w ≡ true → IsName w × Each Low w
unfolding good_name
name-says [] h = absurd (false≢true h)
name-says (b ∷ bs) h = let x = bytes-say (b ∷ bs) h in (record { some = omega arith; each = x.0 }, x.1)

pub name-is : (w : List ℕ) → IsName w → Each Low w → good_name w ≡ true
unfolding good_name
name-is [] h i = let z : ⊥ = omega (arith, h.some) in absurd z
name-is (b ∷ bs) h i = bytes-are (b ∷ bs) h.each i

-- numbers of 32 bits
abbrev pub Small : List ℕ → Type 0
Small rows = (i : ℕ) → get_or rows i 0 < 2 ^ 32

addr-small : (g n : ℕ) → n < 2 ^ 32 → GoodAddr (given_by g n)
addr-small g n h = go (eqb g 1)
  where
    go : (t : Bool) → GoodAddr (pick t (some n) none)
    go true = h
    go false = tt

-- areas
module _ (text areas : List ℕ) where
  pub areas-fine : Small areas → (i n : ℕ) → all (good_area text areas) i n ≡ true → Each Fine (from (area_entry text areas) i n)
  unfolding all good_area from area_entry area_at
  areas-fine s i zero h = tt
  areas-fine s i (suc n) h =
      let w = both_of (good_area text areas i) (all (good_area text areas) (suc i) n) h in
      let x = name-says (name_in text (area_at areas i).name) w.0 in
      (((x.0, s (7 * i + 2), s (7 * i + 3), addr-small (get_or areas (7 * i + 4) 0) (get_or areas (7 * i + 5) 0) (s (7 * i + 5))), x.1), areas-fine s (suc i) n w.1)

  pub fine-areas : (i n : ℕ) → Each Fine (from (area_entry text areas) i n) → all (good_area text areas) i n ≡ true
  unfolding all good_area from area_entry
  fine-areas i zero h = refl
  fine-areas i (suc n) h = both (good_area text areas i) (all (good_area text areas) (suc i) n) (name-is (name_in text (area_at areas i).name) h.0.0.0 h.0.1) (fine-areas (suc i) n h.1)

-- symbols
module _ (text areas : List ℕ) (count : ℕ) (symbols : List ℕ) where
  pub symbols-fine : Small symbols → (k j n : ℕ) → good_symbols text count symbols k j n ≡ true → Ordered text areas count symbols k j n × Each (λ s. Fine s.entry) (from (standing_at text symbols) j n)
  unfolding good_symbols from standing_at symbol_entry symbol_at
  symbols-fine s k j zero h = (leb-true k count h, tt)
  symbols-fine s k j (suc n) h =
      let w = both_of (leb k (column symbols j)) _ h in
      let x = both_of (good_name (name_in text (symbol_at symbols j).name)) (good_symbols text count symbols (column symbols j) (suc j) n) w.1 in
      let y = name-says (name_in text (symbol_at symbols j).name) x.0 in
      let z = symbols-fine s (column symbols j) (suc j) n x.1 in
      ((leb-true k (column symbols j) w.0, z.0), (((y.0, s (5 * j + 3)), y.1), z.1))

  pub fine-symbols : (k j n : ℕ) → Ordered text areas count symbols k j n → Each (λ s. Fine s.entry) (from (standing_at text symbols) j n) → good_symbols text count symbols k j n ≡ true
  unfolding good_symbols from standing_at symbol_entry
  fine-symbols k j zero h i = le-leb k count h
  fine-symbols k j (suc n) h i =
      both (leb k (column symbols j)) _ (le-leb k (column symbols j) h.0)
      (both (good_name (name_in text (symbol_at symbols j).name)) (good_symbols text count symbols (column symbols j) (suc j) n) (name-is (name_in text (symbol_at symbols j).name) i.0.0.0 i.0.1)
      (fine-symbols (column symbols j) (suc j) n h.1 i.1))

-- fragments
fragment-says : (rows : List ℕ) (i : ℕ) → good_fragment rows i ≡ true → Writable 2048 (row_at rows i)
unfolding good_fragment
fragment-says rows i h =
    let w = both_of (ltb (row_at rows i).mode 2048) _ h in
    let x = both_of (ltb (row_at rows i).entry 256) _ w.1 in
    record { mode-below = ltb-true (row_at rows i).mode 2048 w.0; entry-below = ltb-true (row_at rows i).entry 256 x.0; index_below = ltb-true (row_at rows i).index 65536 x.1 }

fragment-is : (rows : List ℕ) (i : ℕ) → Writable 2048 (row_at rows i) → good_fragment rows i ≡ true
unfolding good_fragment
fragment-is rows i h =
    both (ltb (row_at rows i).mode 2048) _ (lt-ltb (row_at rows i).mode 2048 h.mode-below)
    (both (ltb (row_at rows i).entry 256) _ (lt-ltb (row_at rows i).entry 256 h.entry-below) (lt-ltb (row_at rows i).index 65536 h.index_below))

all-writable : (rows : List ℕ) (i n : ℕ) → all (good_fragment rows) i n ≡ true → Each (Writable 2048) (from (row_at rows) i n)
unfolding all from
all-writable rows i zero h = tt
all-writable rows i (suc n) h =
    let w = both_of (good_fragment rows i) (all (good_fragment rows) (suc i) n) h in
    (fragment-says rows i w.0, all-writable rows (suc i) n w.1)

writable-all : (rows : List ℕ) (i n : ℕ) → Each (Writable 2048) (from (row_at rows) i n) → all (good_fragment rows) i n ≡ true
unfolding all from
writable-all rows i zero h = refl
writable-all rows i (suc n) h = both (good_fragment rows i) (all (good_fragment rows) (suc i) n) (fragment-is rows i h.0) (writable-all rows (suc i) n h.1)

-- bytes
module _ (P : ℕ → Type 0) where
  each-get : (xs : List ℕ) → ((i : ℕ) → P (get_or xs i 0)) → Each P xs
  each-get [] h = tt
  each-get (x ∷ xs) h = (h 0, each-get xs (λ i. h (suc i)))

  each_take : (n : ℕ) (xs : List ℕ) → Each P xs → Each P (take n xs)
  each_take zero xs h = tt
  each_take (suc n) [] h = tt
  each_take (suc n) (x ∷ xs) h = (h.0, each_take n xs h.1)

  each-drop : (n : ℕ) (xs : List ℕ) → Each P xs → Each P (drop n xs)
  each-drop zero xs h = h
  each-drop (suc n) [] h = tt
  each-drop (suc n) (x ∷ xs) h = each-drop n xs h.1

  each_part : (xs : List ℕ) (a n : ℕ) → Each P xs → Each P (part_of xs a n)
  unfolding part_of
  each_part xs a n h = go (leb a (length xs)) (leb n (length xs - a))
    where
      go : (t u : Bool) → Each P (pick t (pick u (take n (drop a xs)) []) [])
      go true true = each_take n (drop a xs) (each-drop a xs h)
      go true false = tt
      go false u = tt

-- pairs
module _ (a : ℕ) (r : Rows) where
  pair-says : ((i : ℕ) → get_or r.content i 0 < 256) → (i : ℕ) → good_pair a r.pairs (length r.content) r.fragments i ≡ true
      → GoodPair a (pair_at r.pairs r.content r.fragments i) × PairInside r i
  unfolding good_pair good_fragments pair_at
  pair-says b i h =
      let w = both_of (ltb (get_or r.pairs (7 * i + 1) 0) (256 ^ a)) _ h in
      let x = both_of (ltb (get_or r.pairs (7 * i + 2) 0) 65536) _ w.1 in
      let y = both_of (leb (get_or r.pairs (7 * i + 3) 0 + get_or r.pairs (7 * i + 4) 0) (length r.content)) _ x.1 in
      let z = both_of (leb (get_or r.pairs (7 * i + 5) 0 + get_or r.pairs (7 * i + 6) 0) (length r.fragments / 3)) _ y.1 in
      let l = leb-true (get_or r.pairs (7 * i + 5) 0 + get_or r.pairs (7 * i + 6) 0) (length r.fragments / 3) z.0 in (
        record {
          address = ltb-true (get_or r.pairs (7 * i + 1) 0) (256 ^ a) w.0;
          bytes = each_part IsByte r.content (get_or r.pairs (7 * i + 3) 0) (get_or r.pairs (7 * i + 4) 0) (each-get IsByte r.content b);
          area = ltb-true (get_or r.pairs (7 * i + 2) 0) 65536 x.0;
          fragments = all-writable r.fragments (get_or r.pairs (7 * i + 5) 0) (get_or r.pairs (7 * i + 6) 0) z.1;
        },
        record {
          content = leb-true (get_or r.pairs (7 * i + 3) 0 + get_or r.pairs (7 * i + 4) 0) (length r.content) y.0;
          fragments = omega (arith, l);
        },
      )

  pair_is : (i : ℕ) → GoodPair a (pair_at r.pairs r.content r.fragments i) → PairInside r i → good_pair a r.pairs (length r.content) r.fragments i ≡ true
  unfolding good_pair good_fragments pair_at
  pair_is i h k =
      let l : get_or r.pairs (7 * i + 5) 0 + get_or r.pairs (7 * i + 6) 0 ≤ length r.fragments / 3 = omega (arith, k.fragments) in
      both (ltb (get_or r.pairs (7 * i + 1) 0) (256 ^ a)) _ (lt-ltb (get_or r.pairs (7 * i + 1) 0) (256 ^ a) h.address)
      (both (ltb (get_or r.pairs (7 * i + 2) 0) 65536) _ (lt-ltb (get_or r.pairs (7 * i + 2) 0) 65536 h.area)
      (both (leb (get_or r.pairs (7 * i + 3) 0 + get_or r.pairs (7 * i + 4) 0) (length r.content)) _ (le-leb (get_or r.pairs (7 * i + 3) 0 + get_or r.pairs (7 * i + 4) 0) (length r.content) k.content)
      (both (leb (get_or r.pairs (7 * i + 5) 0 + get_or r.pairs (7 * i + 6) 0) (length r.fragments / 3)) _ (le-leb (get_or r.pairs (7 * i + 5) 0 + get_or r.pairs (7 * i + 6) 0) (length r.fragments / 3) l)
      (writable-all r.fragments (get_or r.pairs (7 * i + 5) 0) (get_or r.pairs (7 * i + 6) 0) h.fragments))))

  abbrev Ps : ℕ → NamedPair
  Ps i = pair_at r.pairs r.content r.fragments i

  abbrev test : ℕ → Bool
  test i = good_pair a r.pairs (length r.content) r.fragments i

  pub all-good : ((i : ℕ) → get_or r.content i 0 < 256) → (i n : ℕ) → all test i n ≡ true → Each (GoodPair a) (from Ps i n)
  unfolding all from
  all-good b i zero h = tt
  all-good b i (suc n) h = let w = both_of (test i) (all test (suc i) n) h in ((pair-says b i w.0).0, all-good b (suc i) n w.1)

  pub all-inside : ((i : ℕ) → get_or r.content i 0 < 256) → (i n : ℕ) → all test i n ≡ true → (j : ℕ) → i ≤ j → j < i + n → PairInside r j
  unfolding all
  all-inside b i zero h j l u = let z : ⊥ = omega arith in absurd z
  all-inside b i (suc n) h j l u = let w = both_of (test i) (all test (suc i) n) h in go (eqb i j) refl (pair-says b i w.0).1 (all-inside b (suc i) n w.1 j)
    where
      go : (t : Bool) → eqb i j ≡ t → PairInside r i → (suc i ≤ j → j < suc i + n → PairInside r j) → PairInside r j
      go true e p f = let d : i ≡ j = eqb-true i j e in rw (← d) p
      go false e p f = f (omega (arith, eqb-false i j e)) (omega arith)

  pub good-all : (i n : ℕ) → Each (GoodPair a) (from Ps i n) → ((j : ℕ) → i ≤ j → j < i + n → PairInside r j) → all test i n ≡ true
  unfolding all from
  good-all i zero h k = refl
  good-all i (suc n) h k = both (test i) (all test (suc i) n) (pair_is i h.0 (k i (omega arith) (omega arith))) (good-all (suc i) n h.1 (λ j l u. k j (omega arith) (omega arith)))
