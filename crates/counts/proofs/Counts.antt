-- What the H line tells: found by walking the lines of group one up to the first that tells; the counts are those of the tables; a cut behind
-- a line tells what the whole tells there.
-- Assumes nothing.
use Prim.Native.Nat.{ℕ, ◌+◌}
use mathlib.Core.Path.{◌≡◌, refl, subst, ◌∙◌}
use mathlib.Core.Bool.{Bool, true, false, ◌&&◌}
use mathlib.Core.List.{List, [], ◌∷◌, ◌++◌}
use mathlib.Core.Option.{none, some}
use native.Mathlib.Omega.{arith}
use lib.ListN.{length, get_or, length-append}
use lib.Dec.{eqb, ltb}
use borrow.Author.Tests.{eqb-true, eq-eqb}
use Rattle.format.specs.Lists.{pick, starts}
use Rattle.format.specs.Lines.{lines_of}
use Rattle.format.specs.Got.{is, isnt}
use Rattle.format.specs.Number.{behind, word}
use Rattle.format.specs.Header.{Form}
use Rattle.format.specs.Entries.{Entry, area, ignored, lead, symbol}
use Rattle.format.specs.Outcome.{Outcome, fine, fold}
use Rattle.format.specs.Records.{Parsed, Taken, goes, parsed, stops}
use Rattle.format.specs.Tables.{Tables, add_area, add_body_of, add_entry, add_symbol, area_row, tables}
use Rattle.laws.specs.Places.{entry_at, next_line, records_at}
use Rattle.laws.proofs.Outcomes.{chain, passed}
use Rattle.laws.proofs.Places.{records-at}
use Rattle.cut.proofs.Opened.{opened, opens}
use Rattle.cut.proofs.Steps.{entry-goes}
use Rattle.counts.specs.Counts.{Counted, H, Two, add_one, compared, counted, counts_in, counts_line, equal, first_told, letters, not_equal, or_later, tells, tells_at, told_counts, told_from}

-- ------------------------------------------------------------------ the counts are the tables' own

same_tables : (t u : Tables) → ◌≡◌ {A = Outcome Tables} (fine t) (fine u) → t ≡ u
same_tables t u h = cc

-- how much longer the tables are
pub record Longer (t u : Tables) (n : Two) : Type 0 where
  pub areas : length u.areas ≡ length t.areas + n.areas
  pub symbols : length u.symbols ≡ length t.symbols + n.symbols

no_longer : (t u : Tables) → t ≡ u → Longer t u (record { areas = 0; symbols = 0 })
no_longer t u e = rw (← e) (record { areas = omega arith; symbols = omega arith })

body-longer : (t u : Tables) (place : ℕ) (e : Entry) → add_body_of t place e ≡ fine u → Longer t u (add_one e (record { areas = 0; symbols = 0 }))
unfolding add_area add_symbol
body-longer t u place ignored h = no_longer t u (same_tables t u h)
body-longer t u place (area n z g a) h =
    let k = passed (ltb (length t.areas) 64) (fine (record { areas = t.areas ++ area_row place n z g a ∷ []; symbols = t.symbols })) 5 place u h in
    let s = same_tables (record { areas = t.areas ++ area_row place n z g a ∷ []; symbols = t.symbols }) u k.1 in
    rw (← s) (record { areas = length-append t.areas (area_row place n z g a ∷ []); symbols = omega arith })
body-longer t u place (symbol n r v) h =
    let k = passed (ltb (length t.symbols) 1024) _ 6 place u h in
    let s = same_tables _ u k.1 in
    rw (← s) (record { areas = omega arith; symbols = length-append t.symbols _ })

one_more : (t u w : Tables) (e : Entry) (n : Two) → Longer t u (add_one e (record { areas = 0; symbols = 0 })) → Longer u w n → Longer t w (add_one e n)
one_more t u w ignored n a b = record { areas = omega (arith, a.areas, b.areas); symbols = omega (arith, a.symbols, b.symbols) }
one_more t u w (area m z g x) n a b = record { areas = omega (arith, a.areas, b.areas); symbols = omega (arith, a.symbols, b.symbols) }
one_more t u w (symbol m r v) n a b = record { areas = omega (arith, a.areas, b.areas); symbols = omega (arith, a.symbols, b.symbols) }

fold-longer : (es : List (Taken Entry)) (t u : Tables) → fold add_entry t es ≡ fine u → Longer t u (counted es)
unfolding fold add_entry counted
fold-longer [] t u h = no_longer t u (same_tables t u h)
fold-longer (e ∷ es) t u h =
    let k = chain (add_entry t e) (λ t'. fold add_entry t' es) u h in
    one_more t k.value u e.body (counted es) (body-longer t k.value e.place e.body k.first) (fold-longer es k.value u k.second)

-- the counted A and S lines are the rows of the tables
pub counted-are-the-tables : (es : List (Taken Entry)) (t : Tables) → tables es ≡ fine t → counted es ≡ record { areas = length t.areas; symbols = length t.symbols }
unfolding tables
counted-are-the-tables es t h =
    let k = fold-longer es (record { areas = []; symbols = [] }) t h in
    let a : (counted es).areas ≡ length t.areas = omega (arith, k.areas) in
    let b : (counted es).symbols ≡ length t.symbols = omega (arith, k.symbols) in
    rw (← a, ← b)

-- so the answer of an accepted text compares what is told with the reading's own counts
pub counts-by-tables : (text : List ℕ) (p : Parsed) (t : Tables) → parsed true text ≡ fine p → tables p.records.entries ≡ fine t
    → told_counts text ≡ compared (first_told p.form.radix text p.records.entries) (record { areas = length t.areas; symbols = length t.symbols })
unfolding told_counts counts_in
counts-by-tables text p t e h = rw (e, counted-are-the-tables p.records.entries t h)

-- equal, exactly
pub equal-then : (told n : Two) → compared (some told) n ≡ equal → (told.areas ≡ n.areas) × (told.symbols ≡ n.symbols)
equal-then told n h = go (eqb told.areas n.areas) (eqb told.symbols n.symbols) refl refl h
  where
    no : (x : Counted) → not_equal ≡ equal → ⊥
    no x q = let z : ◌≡◌ {A = ℕ} 0 1 = cc in omega arith

    go : (t u : Bool) → eqb told.areas n.areas ≡ t → eqb told.symbols n.symbols ≡ u → pick (t && u) equal not_equal ≡ equal → (told.areas ≡ n.areas) × (told.symbols ≡ n.symbols)
    go true true p q r = (eqb-true told.areas n.areas p, eqb-true told.symbols n.symbols q)
    go true false p q r = absurd (no equal r)
    go false u p q r = absurd (no equal r)

pub then_equal : (told n : Two) → told.areas ≡ n.areas → told.symbols ≡ n.symbols → compared (some told) n ≡ equal
then_equal told n a b = rw (eq-eqb told.areas n.areas a, eq-eqb told.symbols n.symbols b)

-- ------------------------------------------------------------------ the walk

module _ (f : Form) (text : List ℕ) where
  -- a line that group one does not take ends the walk
  pub walk-stops : (p : ℕ) → entry_at true f text p ≡ stops → told_from f text p ≡ none
  unfolding told_from first_told
  walk-stops p e = rw (records-at true f text p, e)

  -- where it takes it, the line tells, or the walk goes on behind it
  pub walk-goes : (p : ℕ) (t : Taken Entry) → entry_at true f text p ≡ goes t → told_from f text p ≡ or_later (tells_at f.radix text p) (told_from f text (next_line text p))
  unfolding told_from first_told
  walk-goes p t e = let k = entry-goes f text p t e in rw (records-at true f text p, e, k.0)

  -- the invariant of the walk: what is told from the start is told from here
  pub record Walking (p₀ p : ℕ) : Type 0 where
    pub same : told_from f text p₀ ≡ told_from f text p

  pub walk_start : (p : ℕ) → Walking p p
  walk_start p = record { same = refl }

  module _ {p₀ p : ℕ} (w : Walking p₀ p) where
    pub walk_more : (t : Taken Entry) → entry_at true f text p ≡ goes t → tells_at f.radix text p ≡ none → Walking p₀ (next_line text p)
    walk_more t e n = record { same = w.same ∙ walk-goes p t e ∙ rw n }

    pub walk-told : (t : Taken Entry) → entry_at true f text p ≡ goes t → (c : Two) → tells_at f.radix text p ≡ some c → told_from f text p₀ ≡ some c
    walk-told t e c n = w.same ∙ walk-goes p t e ∙ rw n

    pub walk_end : entry_at true f text p ≡ stops → told_from f text p₀ ≡ none
    walk_end e = w.same ∙ walk-stops p e

-- the walk from behind the header line, compared with the reading's counts, is the answer
pub entries-from-the-head : (text : List ℕ) (p : Parsed) → parsed true text ≡ fine p → first_told p.form.radix text p.records.entries ≡ told_from p.form text p.head
unfolding told_from records_at opened lines_of
entries-from-the-head text p e = let o = opens text p e in subst (λ (x : Parsed). first_told x.form.radix text x.records.entries ≡ told_from x.form text x.head) o.same refl

pub the-walk-gives-the-answer : (text : List ℕ) (p : Parsed) (t : Tables) → parsed true text ≡ fine p → tables p.records.entries ≡ fine t
    → told_counts text ≡ compared (told_from p.form text p.head) (record { areas = length t.areas; symbols = length t.symbols })
the-walk-gives-the-answer text p t e h = counts-by-tables text p t e h ∙ rw (entries-from-the-head text p e)

-- ------------------------------------------------------------------ only H lines tell

-- the word H at the start of a line
no-H : (s : List ℕ) → eqb 72 (get_or s 0 0) ≡ false → word (letters H) s 0 ≡ isnt 4 0
unfolding word behind starts
no-H [] e = refl
no-H (x ∷ xs) e = rw e

pub only-H-lines-tell : (radix : ℕ) (s : List ℕ) → eqb 72 (get_or s 0 0) ≡ false → tells radix s ≡ none
unfolding tells counts_line lead
only-H-lines-tell radix s e = rw (no-H s e)
