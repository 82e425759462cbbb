-- What an accepted text left in the lent buffers is the module that was read.
-- Assumes nothing.
use Prim.Native.Nat.{ℕ, zero, suc, ◌+◌, ◌*◌, ◌<◌, ◌≤◌}
use native.Mathlib.Nat.{add-zero}
use mathlib.Core.Path.{◌≡◌, refl, ap, sym, subst, ◌∙◌}
use mathlib.Core.Bool.{Bool, true, false}
use mathlib.Core.List.{List, [], ◌∷◌, ◌++◌, append_assoc}
use native.Mathlib.Omega.{arith}
use lib.ListN.{length, drop, get_or, take, length-append}
use lib.Seq.{sets, get_or-append-add, take_at}
use lib.Dec.{leb}
use borrow.Author.Tests.{leb-true}
use Rattle.format.specs.Lists.{flat, over, pick}
use Rattle.format.specs.Outcome.{Outcome, fine, refused}
use Rattle.format.specs.Records.{Verdict, verdict}
use Rattle.format.specs.Tables.{Area, Symbol, Tables, kept_count, room, total}
use Rattle.format.specs.Fixups.{Fixup}
use Rattle.format.specs.Rows.{area_numbers, area_table, fixup_numbers, symbol_columns, symbol_numbers}
use Rattle.format.specs.Reading.{Answer, Counts, Lent, Read, Reading, accepted, counts_of, fixups_of, read, reading, reading_of, refusal}
use Rattle.format.specs.Held.{Held, Meets, lengths}
use Rattle.laws.specs.Rows.{area_at, areas_in, fixup_from, fixup_row, fixups_in, from, symbols_in}
use Rattle.laws.proofs.Known.{table-length}
use Rattle.laws.proofs.Room.{HasRoom, Small, Sized, flat-length, grouped-le, has_room, small-tables, sized-placing}
use Rattle.laws.proofs.WasRead.{WasRead, what-was-read}
use Rattle.steps.proofs.Stored.{laid}
use Rattle.tables.specs.GroupOne.{Hold}
use Rattle.tables.proofs.TableRows.{column, first-column, symbols-held}
use Rattle.difference.specs.Module.{Module}
use Rattle.difference.specs.Told.{module_of}
use Rattle.read_rows.specs.Rows.{Accepts, Fit, module_held, module_in}
use Rattle.read_rows.proofs.AreaTable.{the-table-decodes}
use Rattle.read_rows.proofs.Grouped.{grouping-loses-none}

-- a fixup's row, read back
fixup-back : (pre : List ℕ) (x : Fixup) (post : List ℕ) (i : ℕ) → length pre ≡ 9 * i → fixup_row (pre ++ (fixup_numbers x ++ post)) i ≡ x
unfolding fixup_row fixup_from fixup_numbers
fixup-back pre x post i e =
    let c = column pre (fixup_numbers x ++ post) (9 * i) e in
    λ j. record {
      home = first-column pre (fixup_numbers x ++ post) (9 * i) e j;
      position = c 1 j;
      size = c 2 j;
      mode = c 3 j;
      refers = record { outside = c 4 j; what = c 5 j; length = c 6 j; value = c 7 j };
      number = c 8 j;
    }

nine : (x : Fixup) → length (fixup_numbers x) ≡ 9
unfolding fixup_numbers
nine x = refl

rows_back : (pre : List ℕ) (xs : List Fixup) (post : List ℕ) (i : ℕ) → length pre ≡ 9 * i → from (fixup_row (pre ++ (flat fixup_numbers xs ++ post))) i (length xs) ≡ xs
unfolding from flat
rows_back pre [] post i e = refl
rows_back pre (x ∷ xs) post i e =
    let a : (fixup_numbers x ++ flat fixup_numbers xs) ++ post ≡ fixup_numbers x ++ (flat fixup_numbers xs ++ post) = append_assoc (fixup_numbers x) (flat fixup_numbers xs) post in
    let one : fixup_row (pre ++ ((fixup_numbers x ++ flat fixup_numbers xs) ++ post)) i ≡ x = ap (λ (l : List ℕ). fixup_row (pre ++ l) i) a ∙ fixup-back pre x (flat fixup_numbers xs ++ post) i e in
    let b : pre ++ ((fixup_numbers x ++ flat fixup_numbers xs) ++ post) ≡ (pre ++ fixup_numbers x) ++ (flat fixup_numbers xs ++ post) = ap (λ (l : List ℕ). pre ++ l) a ∙ sym (append_assoc pre (fixup_numbers x) (flat fixup_numbers xs ++ post)) in
    let n : length (pre ++ fixup_numbers x) ≡ 9 * suc i = simp length-append (omega (arith, nine x)) in
    let more : from (fixup_row (pre ++ ((fixup_numbers x ++ flat fixup_numbers xs) ++ post))) (suc i) (length xs) ≡ xs = ap (λ (l : List ℕ). from (fixup_row l) (suc i) (length xs)) b ∙ rows_back (pre ++ fixup_numbers x) xs post (suc i) n in
    λ j. one j ∷ more j

fixups-back : (xs : List Fixup) (old : List ℕ) (n : ℕ) → n ≡ length xs → fixups_in (over (flat fixup_numbers xs) old) n ≡ xs
unfolding fixups_in over
fixups-back xs old n e = ap (from (fixup_row (flat fixup_numbers xs ++ drop (length (flat fixup_numbers xs)) old)) 0) e ∙ rows_back [] xs (drop (length (flat fixup_numbers xs)) old) 0 (omega arith)

over-sets : (rows old : List ℕ) → length rows ≤ length old → over rows old ≡ sets old 0 rows
unfolding over
over-sets rows old h = sym (laid rows old h)

over-take : (rows old : List ℕ) (n : ℕ) → length rows ≡ n → take n (over rows old) ≡ rows
unfolding over
over-take rows old n e = take_at rows (drop (length rows) old) n e

over-long : (rows old : List ℕ) → length rows ≤ length (over rows old)
unfolding over
over-long rows old = omega (arith, length-append rows (drop (length rows) old))

-- by what was read
module _ (text : List ℕ) (old new : Held) (w : Read) (is : read true (lengths old) text ≡ fine w)
    (m : Meets true text old (accepted (counts_of w.built) (verdict text w.parsed)) new) where
  abbrev built-areas : List Area
  built-areas = w.built.tables.areas

  was : WasRead true (lengths old) text w
  was = what-was-read true (lengths old) text w is

  small : Small w.built.tables
  small = small-tables w.parsed.records.entries w.built.tables was.builds.entered

  sized : Sized (total built-areas) w.built.state
  sized = sized-placing w.parsed.form w.built.tables w.parsed.records.pairs w.built.state was.builds.placed

  is-reading : reading true (lengths old) text ≡ reading_of text (fine w)
  unfolding reading
  is-reading = ap (reading_of text) is

  roomy : HasRoom (lengths old) (reading_of text (fine w))
  roomy = subst (λ (r : Reading). HasRoom (lengths old) r) is-reading (has_room true (lengths old) text)

  -- the size of the images
  room-with : (b : Bool) → leb (total built-areas) 65536 ≡ b → pick b (fine (total built-areas)) (refused 9 0) ≡ fine w.built.size → (total built-areas ≡ w.built.size) × (total built-areas ≤ 65536)
  room-with true e h = (cc, leb-true (total built-areas) 65536 e)
  room-with false e h = let z : ◌≡◌ {A = ℕ} 0 1 = cc in absurd (omega arith)

  size_is : (total built-areas ≡ w.built.size) × (total built-areas ≤ 65536)
  unfolding room
  size_is = room-with (leb (total built-areas) 65536) refl was.builds.roomy

  -- what each buffer holds
  areas-new : new.areas ≡ over (area_table built-areas w.built.state.masks) old.areas
  areas-new = m.areas ∙ ap (λ (r : Reading). over r.areas old.areas) is-reading

  symbols-new : new.symbols ≡ over (flat symbol_numbers w.built.tables.symbols) old.symbols
  symbols-new = m.symbols ∙ ap (λ (r : Reading). over r.symbols old.symbols) is-reading

  values-new : new.values ≡ over w.built.state.values old.values
  values-new = m.values ∙ ap (λ (r : Reading). over r.values old.values) is-reading

  masks-new : new.masks ≡ over w.built.state.masks old.masks
  masks-new = m.masks ∙ ap (λ (r : Reading). over r.masks old.masks) is-reading

  fixups-new : new.fixups ≡ over (flat fixup_numbers (fixups_of w.built)) old.fixups
  fixups-new = m.fixups ∙ ap (λ (r : Reading). over r.fixups old.fixups) is-reading

  -- the symbols' rows, beside those of the areas with nothing known
  hold : Hold w.built.tables old.areas old.symbols (sets old.areas 0 (flat (area_numbers 0) built-areas)) new.symbols (length built-areas) (length w.built.tables.symbols)
  unfolding lengths
  hold = record {
    areas = refl;
    symbols = symbols-new ∙ over-sets (flat symbol_numbers w.built.tables.symbols) old.symbols roomy.symbols;
    area-count = refl;
    symbol-count = refl;
  }

  areas-are : areas_in new.areas (length built-areas) ≡ built-areas
  unfolding areas_in over
  areas-are =
      ap (λ (l : List ℕ). from (area_at l) 0 (length built-areas)) areas-new
      ∙ the-table-decodes [] built-areas w.built.state.masks (drop (length (area_table built-areas w.built.state.masks)) old.areas) 0 (omega arith)

  symbols-are : symbols_in new.symbols (length w.built.tables.symbols) ≡ w.built.tables.symbols
  unfolding lengths symbol_numbers
  symbols-are =
      symbols-held hold (omega (arith, roomy.areas, table-length built-areas w.built.state.masks))
      (omega (arith, roomy.symbols, flat-length symbol_numbers symbol_columns (λ a. refl) w.built.tables.symbols))

  values-are : take w.built.size new.values ≡ w.built.state.values
  values-are = ap (take w.built.size) values-new ∙ over-take w.built.state.values old.values w.built.size (sized.values ∙ size_is.0)

  masks-are : take w.built.size new.masks ≡ w.built.state.masks
  masks-are = ap (take w.built.size) masks-new ∙ over-take w.built.state.masks old.masks w.built.size (sized.masks ∙ size_is.0)

  fixups-are : fixups_in new.fixups (length w.built.state.fixups) ≡ fixups_of w.built
  unfolding fixups_of
  fixups-are =
      ap (λ (l : List ℕ). fixups_in l (length w.built.state.fixups)) fixups-new
      ∙ fixups-back (fixups_of w.built) old.fixups (length w.built.state.fixups)
      (sym (grouping-loses-none w.parsed.form w.built.tables w.parsed.records.pairs w.built.state was.builds.placed))

  held-is : Accepts text old (counts_of w.built) (verdict text w.parsed) new
  unfolding counts_of module_held module_in
  held-is = record {
    whole = w;
    is_read = is;
    verdict-is = refl;
    module-is = λ j. record { text = text; areas = sym areas-are j; symbols = sym symbols-are j; values = sym values-are j; masks = sym masks-are j; fixups = sym fixups-are j };
    fit = record {
      areas = small.areas;
      symbols = small.symbols;
      fixups = sized.fixups;
      positions = omega (arith, size_is.0, size_is.1);
      values = omega (arith, size_is.0, sized.values, over-long w.built.state.values old.values, ap length values-new);
      masks = omega (arith, size_is.0, sized.masks, over-long w.built.state.masks old.masks, ap length masks-new);
    };
  }

-- the same, from the contract of the ended reading
pub what-is-held-was-read : (text : List ℕ) (old new : Held) (c : Counts) (v : Verdict) → Meets true text old (accepted c v) new → Accepts text old c v new
unfolding reading
what-is-held-was-read text old new c v m = go (read true (lengths old) text) refl m.says
  where
    go : (o : Outcome Read) → read true (lengths old) text ≡ o → accepted c v ≡ (reading_of text (read true (lengths old) text)).answer → Accepts text old c v new
    go (fine w) e h =
        let k : accepted c v ≡ accepted (counts_of w.built) (verdict text w.parsed) = h ∙ ap (λ (o : Outcome Read). (reading_of text o).answer) e in
        let p : c ≡ counts_of w.built = cc in
        let q : v ≡ verdict text w.parsed = cc in
        subst (λ (x : Verdict). Accepts text old c x new) (sym q)
        (subst (λ (x : Counts). Accepts text old x (verdict text w.parsed) new) (sym p)
        (held-is text old new w e (subst (λ (x : Answer). Meets true text old x new) k m)))
    go (refused n p) e h =
        let k : accepted c v ≡ refusal n p = h ∙ ap (λ (o : Outcome Read). (reading_of text o).answer) e in
        let z : ◌≡◌ {A = ℕ} 0 1 = cc in absurd (omega arith)

pub a-refusal-was-read : (text : List ℕ) (old new : Held) (n p : ℕ) → Meets true text old (refusal n p) new → read true (lengths old) text ≡ refused n p
unfolding reading
a-refusal-was-read text old new n p m = go (read true (lengths old) text) refl m.says
  where
    go : (o : Outcome Read) → read true (lengths old) text ≡ o → refusal n p ≡ (reading_of text (read true (lengths old) text)).answer → read true (lengths old) text ≡ refused n p
    go (refused a b) e h =
        let k : refusal n p ≡ refusal a b = h ∙ ap (λ (o : Outcome Read). (reading_of text o).answer) e in
        let x : n ≡ a = cc in
        let y : p ≡ b = cc in
        e ∙ rw (x, y)
    go (fine w) e h =
        let k : refusal n p ≡ accepted (counts_of w.built) (verdict text w.parsed) = h ∙ ap (λ (o : Outcome Read). (reading_of text o).answer) e in
        let z : ◌≡◌ {A = ℕ} 0 1 = cc in absurd (omega arith)
