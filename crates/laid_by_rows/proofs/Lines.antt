-- Rows laid over a buffer are the records laid over the images, and behind them the buffer as it was.
-- Assumes nothing.
use Prim.Native.Nat.{ℕ, zero, suc, ◌+◌, ◌-◌, ◌*◌, ◌≤◌, ◌<◌}
use mathlib.Core.Path.{◌≡◌, refl, ap, sym, subst, ◌∙◌}
use mathlib.Core.Bool.{Bool, true, false, ◌&&◌}
use mathlib.Core.List.{List, [], ◌∷◌, ◌++◌}
use mathlib.Core.Option.{Option, none, some}
use native.Mathlib.Omega.{arith}
use lib.Dec.{ltb, leb}
use lib.ListN.{length, get_or, set, take, drop, length-set, length-take, drop_of_length-le}
use lib.Seq.{sets, set-append_left, drop-cons}
use borrow.Author.Tests.{ltb-true, ltb-false, le-ltb, le-leb}
use Rattle.format.specs.Header.{Form}
use Rattle.format.specs.Lists.{pick}
use Rattle.format.specs.Pairs.{Content, Fragment, Pair, Relocation, placed}
use Rattle.format.specs.Placing.{extent}
use Rattle.format.specs.Records.{Taken}
use Rattle.format.specs.Tables.{Area, Tables, offset, rank, total}
use Rattle.laws.specs.Rows.{areas_in, from}
use Rattle.homes.specs.declared.Home.{Home}
use Rattle.homes.specs.Home.{home_at, home_by_of}
use Rattle.homes.proofs.Use.{by_rank}
use Rattle.sites.specs.declared.Filled.{Filled}
use Rattle.sites.specs.Site.{tables_for}
use Rattle.order.proofs.Areas.{ends-inside}
use Rattle.record_rows.specs.RecordRows.{pair_columns}
use Rattle.record_parts.specs.Parts.{fragment_from}
use Rattle.one_position.specs.Back.{RowIs, RowsAre, no_pair}
use Rattle.laid.specs.Laid.{Chosen, laid_content, laid_line, laid_in, laid_by, laid_pairs}
use Rattle.laid.specs.Outside.{by_index}
use Rattle.laid.proofs.Pattern.{body-length}
use Rattle.laid_rows.specs.Over.{Around, around, laid_over, no_span, row_at, span_by, span_of, span_over, row_over, rows_over}
use Rattle.laid_by_rows.proofs.Numbers.{the-address, the-area, the-bytes, the-fragments}
use Rattle.laid_by_rows.proofs.Spans.{Good}
use Rattle.laid_by_rows.proofs.Fields.{Told, fragments-are}

-- stores that end before a list does
sets-left : (vs xs ys : List ℕ) (i : ℕ) → i + length vs ≤ length xs → sets (xs ++ ys) i vs ≡ sets xs i vs ++ ys
sets-left [] xs ys i h = refl
sets-left (v ∷ vs) xs ys i h = ap (λ (l : List ℕ). sets l (suc i) vs) (set-append_left xs ys i v (omega arith)) ∙ sets-left vs (set xs i v) ys (suc i) (simp length-set (omega arith))

module _ (fm : Form) (t : Tables) (areas symbols : List ℕ) (filled : Filled) (tables-are : tables_for areas symbols filled ≡ t) (few : filled.areas ≤ 64) (areas-are : areas_in areas filled.areas ≡ t.areas)
    (sizes : total t.areas ≤ 65536) (chosen outside : List ℕ) (T : Told t chosen outside) (width : ℕ) (ew : width ≡ fm.address_length) (pairs content fragments : List ℕ) where
  abbrev ch : Chosen
  ch = by_index t chosen outside

  abbrev w : Around
  w = around areas symbols filled chosen outside

  module _ (k place : ℕ) (c : Content) (r : Relocation) (G : Good fm t pairs content fragments k place c r) (image rest : List ℕ) (long : length image ≡ total t.areas) where
    abbrev area : ℕ
    area = get_or pairs (pair_columns * k + 2) 0

    abbrev address : ℕ
    address = get_or pairs (pair_columns * k + 1) 0

    abbrev begin : ℕ
    begin = get_or pairs (pair_columns * k + 3) 0

    abbrev n : ℕ
    n = get_or pairs (pair_columns * k + 4) 0

    abbrev S : ℕ
    S = offset t.areas area

    abbrev E : ℕ
    E = extent t.areas area

    home-is : home_at areas filled.areas area ≡ home_by_of area S E (rank 0 t.areas area)
    home-is = subst (λ xs. home_at areas filled.areas area ≡ home_by_of area (offset xs area) (extent xs area) (rank 0 xs area)) areas-are (by_rank areas filled.areas area {h = home_at areas filled.areas area} refl few)

    -- nothing has room
    none-laid : ltb address (home_at areas filled.areas area).size ≡ false → row_over fm.big width w pairs content fragments k (image ++ rest) ≡ image ++ rest
    unfolding row_over span_over span_of span_by row_at
    none-laid h = rw h

    span-is : (id : ℕ) → rank 0 t.areas area ≡ some id → ltb address E ≡ true → span_of areas filled.areas pairs (length content) k
        ≡ record { begin = begin; end = begin + n; first = get_or pairs (pair_columns * k + 5) 0; many = get_or pairs (pair_columns * k + 6) 0; at = S + address; limit = E - address }
    unfolding span_of span_by row_at
    span-is id q l =
        rw (home-is, q, l, le-leb S 65536 (omega (arith, ends-inside t.areas area, sizes)), le-leb n 256 (omega (arith, G.stands.counted, G.sound.few_bytes)), le-leb (begin + n) (length content) G.stands.inside)

    abbrev bs : List ℕ
    bs = take (begin + n - begin) (drop begin content)

    bytes-are : bs ≡ c.bytes
    bytes-are = let z : begin + n - begin ≡ n = omega arith in ap (λ (m : ℕ). take m (drop begin content)) z ∙ the-bytes G.stands

    content-is : laid_over fm.big width w bs (from (fragment_from fragments) (get_or pairs (pair_columns * k + 5) 0) (get_or pairs (pair_columns * k + 6) 0)) bs ≡ laid_content fm t ch place c r
    unfolding laid_content
    content-is =
        ap (λ (l : List ℕ). laid_over fm.big width w l (from (fragment_from fragments) (get_or pairs (pair_columns * k + 5) 0) (get_or pairs (pair_columns * k + 6) 0)) l) bytes-are
        ∙ (ap (λ (fs : List Fragment). laid_over fm.big width w c.bytes fs c.bytes) (the-fragments G.stands)
        ∙ fragments-are fm t areas symbols filled tables-are chosen outside T width ew place c.bytes r.fragments G.fits c.bytes)

    over-here : (out : List ℕ) → span_over fm.big width w content fragments (record { begin = begin; end = begin + n; first = get_or pairs (pair_columns * k + 5) 0; many = get_or pairs (pair_columns * k + 6) 0; at = S + address; limit = E - address }) out
        ≡ sets out (S + address) (take (E - address) (laid_content fm t ch place c r))
    unfolding span_over
    over-here out = ap (λ (l : List ℕ). sets out (S + address) (take (E - address) l)) content-is

    line-is : sets image (S + address) (take (E - address) (laid_content fm t ch place c r)) ≡ laid_line fm t ch place c r image
    unfolding laid_line
    line-is = rw (← the-area G.stands, ← the-address G.stands)

    some-laid : (id : ℕ) → rank 0 t.areas area ≡ some id → ltb address E ≡ true → row_over fm.big width w pairs content fragments k (image ++ rest) ≡ laid_line fm t ch place c r image ++ rest
    unfolding row_over
    some-laid id q l =
        let vs = take (E - address) (laid_content fm t ch place c r) in
        rw (span-is id q l)
        (over-here (image ++ rest)
        ∙ (sets-left vs image rest (S + address) (omega (arith, length-take (E - address) (laid_content fm t ch place c r), ltb-true address E l, ends-inside t.areas area, long))
        ∙ ap (λ (l : List ℕ). l ++ rest) line-is))

    -- past the end of its area
    past-laid : ltb address E ≡ false → laid_line fm t ch place c r image ≡ image
    past-laid h = sym line-is ∙ nothing
      where
        nothing : sets image (S + address) (take (E - address) (laid_content fm t ch place c r)) ≡ image
        nothing = let z : E - address ≡ 0 = omega (arith, ltb-false address E h) in rw z

    pub row_laid : row_over fm.big width w pairs content fragments k (image ++ rest) ≡ laid_by fm t ch place image (placed c r) ++ rest
    row_laid = by-rank-of (rank 0 t.areas area) refl ∙ ap (λ (a : ℕ). laid_in fm t ch place c r image (rank 0 t.areas a) ++ rest) (the-area G.stands)
      where
        size_of : (o : Option ℕ) → rank 0 t.areas area ≡ o → (home_at areas filled.areas area).size ≡ (home_by_of area S E o).size
        size_of o q = ap (λ (x : Home). x.size) (home-is ∙ ap (λ (y : Option ℕ). home_by_of area S E y) q)

        by_size : (id : ℕ) → rank 0 t.areas area ≡ some id → (u : Bool) → ltb address E ≡ u → row_over fm.big width w pairs content fragments k (image ++ rest) ≡ laid_line fm t ch place c r image ++ rest
        by_size id q true l = some-laid id q l
        by_size id q false l = none-laid (ap (λ (x : ℕ). ltb address x) (size_of (some id) q) ∙ l) ∙ ap (λ (l : List ℕ). l ++ rest) (sym (past-laid l))

        by-rank-of : (o : Option ℕ) → rank 0 t.areas area ≡ o → row_over fm.big width w pairs content fragments k (image ++ rest) ≡ laid_in fm t ch place c r image (rank 0 t.areas area) ++ rest
        by-rank-of none q = none-laid (ap (λ (x : ℕ). ltb address x) (size_of none q) ∙ le-ltb address 0 (omega arith)) ∙ ap (λ (o : Option ℕ). laid_in fm t ch place c r image o ++ rest) (sym q)
        by-rank-of (some id) q = by_size id q (ltb address E) refl ∙ ap (λ (o : Option ℕ). laid_in fm t ch place c r image o ++ rest) (sym q)

  -- ------------------------------------------------------------------ all rows

  module _ (n : ℕ) (qs : List (Taken Pair)) (R : RowsAre fm t pairs content fragments n qs)
      (G : (k : ℕ) (l : k < n) → Good fm t pairs content fragments k (R.each k l).place (R.each k l).content-is (R.each k l).relocation) (rest : List ℕ) where
    pub rows-laid : (m k : ℕ) → k + m ≡ n → (image : List ℕ) → length image ≡ total t.areas
        → rows_over fm.big width w pairs content fragments k m (image ++ rest) ≡ laid_pairs fm t ch (drop k qs) image ++ rest
    unfolding rows_over laid_pairs
    rows-laid zero k e image long = ap (λ (l : List (Taken Pair)). laid_pairs fm t ch l image ++ rest) (sym (drop_of_length-le qs {i = k} (omega (arith, R.many))))
    rows-laid (suc m) k e image long =
        let l : k < n = omega arith in
        let r = R.each k l in
        let image' = laid_by fm t ch r.place image (placed r.content-is r.relocation) in
        ap (rows_over fm.big width w pairs content fragments (suc k) m) (row_laid k r.place r.content-is r.relocation (G k l) image rest long)
        ∙ (rows-laid m (suc k) (omega arith) image' (body-length fm t ch r.place image (placed r.content-is r.relocation) ∙ long)
        ∙ (ap (λ (p : Taken Pair). laid_pairs fm t ch (drop (suc k) qs) (laid_by fm t ch p.place image p.body) ++ rest) (sym r.is)
        ∙ ap (λ (ps : List (Taken Pair)). laid_pairs fm t ch ps image ++ rest) (sym (drop-cons qs k no_pair (omega (arith, R.many))))))
