-- The records of any text that the ended reading takes can be written.
-- Assumes nothing.
use Prim.Native.Nat.{suc, zero, ℕ, ◌+◌, ◌≤◌}
use mathlib.Core.Path.{◌≡◌, ap, refl, subst, sym, ◌∙◌}
use mathlib.Core.Bool.{Bool, false, true, ◌&&◌}
use mathlib.Core.List.{List, [], ◌∷◌}
use mathlib.Core.Option.{Option, none, some}
use native.Mathlib.Omega.{arith}
use lib.ListN.{drop, length, take}
use lib.Seq.{drop-drop, length-take-le, take-take}
use lib.Dec.{eqb, leb}
use Rattle.format.specs.Lists.{pick}
use Rattle.format.specs.Got.{Got, is, isnt}
use Rattle.format.specs.Number.{Name}
use Rattle.format.specs.Lines.{Line, end_length, lines_of, width}
use Rattle.format.specs.Header.{Form, Head, header}
use Rattle.format.specs.Entries.{Entry, area, entry_line, ignored, symbol}
use Rattle.format.specs.Pairs.{Pair, pair_lines, placed, skipped}
use Rattle.format.specs.Outcome.{fine}
use Rattle.format.specs.Records.{Parsed, Records, Taken, both, consed, entry_step, goes, last, pair_step, pairs, parsed, parsed_at, parsed_from, records, step_of, stops}
use Rattle.format.specs.Tables.{named}
use Rattle.laws.proofs.Lines.{line_length}
use Rattle.laws.proofs.Outcomes.{unlike}
use Rattle.laws.proofs.Places.{lines_from, lines-from}
use Rattle.laws.proofs.Within.{EntryIn, Holds, Named as NamedIn, entry_in, run-within}
use Rattle.record_rows.proofs.HeaderLength.{GoodForm, header-good}
use Rattle.manual.specs.Each.{Each}
use Rattle.manual.specs.WrittenEntries.{IsName}
use Rattle.written.specs.Named.{Named, NamedEntry, NamedPair, bytes_at, collected, cons_option, entry_named, named_of, pair_named, taken_entry, taken_pair}
use Rattle.written.specs.Writing.{Good, GoodEntry, GoodPair, written}
use Rattle.written.specs.ReadsBack.{ReadsBack, as_hex}
use Rattle.written.proofs.Given.{EntryStands, entry-stands}
use Rattle.written.proofs.GivenPairs.{PairStands, pair-stands}
use Rattle.written.proofs.Theorem.{what-is-written-reads-back}

-- each line's bytes stand where the lines before it end
abbrev pub Lie : List ℕ → List Line → Type 0
Lie xs [] = Unit {0}
Lie xs (l ∷ ls) = (l.bytes ≡ take (length l.bytes) xs) × Lie (drop (width l) xs) ls

pub lines-lie : (ended : Bool) (ls : List Line) (xs : List ℕ) → lines_of ended xs ≡ ls → Lie xs ls
unfolding width line_length
lines-lie ended [] xs h = tt
lines-lie ended (l ∷ ls) xs h = go ended (line_length xs) (end_length (drop (line_length xs) xs)) (run-within _ xs) (sym (lines-from ended xs) ∙ h) (λ ys. lines-lie ended ls ys)
  where
    go : (ended : Bool) (k e : ℕ) → k ≤ length xs → lines_from ended xs k e ≡ l ∷ ls → ((ys : List ℕ) → lines_of ended ys ≡ ls → Lie ys ls)
        → (l.bytes ≡ take (length l.bytes) xs) × Lie (drop (length l.bytes + l.ends) xs) ls
    go true k zero i q f = let z : ◌≡◌ {A = ℕ} 0 1 = cc in absurd (omega arith)
    go false k zero i q f =
        let same : record { bytes = take k xs; ends = 0 } ≡ l = cc in
        let none : [] ≡ ls = cc in
        rw (← same, length-take-le k xs i) (refl, subst (λ (x : List Line). Lie (drop (k + 0) xs) x) none tt)
    go ended k (suc e) i q f =
        let same : record { bytes = take k xs; ends = suc e } ≡ l = cc in
        let rest : lines_of ended (drop (k + suc e) xs) ≡ ls = cc in
        rw (← same, length-take-le k xs i) (refl, f (drop (k + suc e) xs) rest)

-- a part of the first bytes
window : (k i m : ℕ) (xs : List ℕ) → i + m ≤ k → take m (drop i (take k xs)) ≡ take m (drop i xs)
window k zero m xs h = take-take m k xs (omega arith)
window zero (suc i) m xs h = let z : ⊥ = omega arith in absurd z
window (suc k) (suc i) m [] h = refl
window (suc k) (suc i) m (x ∷ xs) h = window k i m xs (omega arith)

module _ (ended : Bool) (f : Form) (text : List ℕ) (l : 1 ≤ f.address_length) where
  -- a name of a line is a name of the text
  name-good : (at : ℕ) (s : List ℕ) (n : Name) → s ≡ take (length s) (drop at text) → n.at + n.length ≤ length s
      → IsName (take n.length (drop n.at s)) → IsName (bytes_at text (named at n))
  unfolding bytes_at named
  name-good at s n e i w =
      let same : take n.length (drop n.at s) ≡ take n.length (drop (at + n.at) text) =
      ap (λ (x : List ℕ). take n.length (drop n.at x)) e ∙ (window (length s) n.at n.length (drop at text) i ∙ ap (take n.length) (drop-drop n.at at text)) in
      subst IsName same w

  entry-good : (at : ℕ) (s : List ℕ) (e : Entry) (rest : List NamedEntry) → s ≡ take (length s) (drop at text) → NamedIn s e → EntryStands s e
      → Each GoodEntry rest → Each GoodEntry (cons_option (entry_named text at e) rest)
  entry-good at s ignored rest q i w r = r
  entry-good at s (area n z g a) rest q i w r = ((name-good at s n q i w.0, w.1, w.2, w.3), r)
  entry-good at s (symbol n b v) rest q i w r = ((name-good at s n q i w.0, w.1), r)

  pair-good : (p : Pair) (rest : List NamedPair) → PairStands f.address_length p → Each (GoodPair f.address_length) rest → Each (GoodPair f.address_length) (cons_option (pair_named p) rest)
  pair-good skipped rest h r = r
  pair-good (placed c q) rest h r = (record { address = h.0.0; bytes = h.0.1; area = h.1.0; fragments = h.1.1 }, r)

  -- group two
  abbrev GoodPairs : List (Taken Pair) → Type 0
  GoodPairs ts = Each (GoodPair f.address_length) (collected taken_pair ts)

  consed-good : (at n e next : ℕ) (g : Got Pair) (rest : List (Taken Pair)) → Holds (λ p q. PairStands f.address_length p) g → GoodPairs rest → GoodPairs (consed (step_of ended at n e next g) rest)
  unfolding collected
  consed-good at n e next (isnt r p) rest h k = tt
  consed-good at n e next (is a used) rest h k = go (eqb used n && leb 1 e) ended
    where
      go : (t u : Bool) → GoodPairs (consed (pick t (goes (record { place = at; end = pick ended next (at + used); body = a })) (pick u stops (last (record { place = at; end = at + used; body = a })))) rest)
      go true u = pair-good a (collected taken_pair rest) h k
      go false true = tt
      go false false = pair-good a [] h tt

  pairs-good : (at : ℕ) (ls : List Line) → GoodPairs (pairs ended f at ls)
  unfolding pairs collected pair_step
  pairs-good at [] = tt
  pairs-good at (t ∷ []) = tt
  pairs-good at (t ∷ r ∷ ls) =
      consed-good at _ _ (at + (width t + width r)) (pair_lines f t r) (pairs ended f (at + (width t + width r)) ls) (pair-stands f l t r) (pairs-good (at + (width t + width r)) ls)

  -- group one
  abbrev GoodRecords : Records → Type 0
  GoodRecords r = Each GoodEntry (collected (taken_entry text) r.entries) × GoodPairs r.pairs

  both-good : (at n e next : ℕ) (s : List ℕ) (g : Got Entry) (rest : Records) (two : List (Taken Pair)) → s ≡ take (length s) (drop at text)
      → Holds (EntryIn s) g → Holds (λ e q. EntryStands s e) g → GoodRecords rest → GoodPairs two → GoodRecords (both (step_of ended at n e next g) rest two)
  unfolding collected
  both-good at n e next s (isnt r p) rest two q i h k j = (tt, j)
  both-good at n e next s (is a used) rest two q i h k j = go (eqb used n && leb 1 e) ended
    where
      go : (t u : Bool) → GoodRecords (both (pick t (goes (record { place = at; end = pick ended next (at + used); body = a })) (pick u stops (last (record { place = at; end = at + used; body = a })))) rest two)
      go true u = (entry-good at s a (collected (taken_entry text) rest.entries) q i.1 h k.0, k.1)
      go false true = (tt, j)
      go false false = (entry-good at s a [] q i.1 h tt, tt)

  records-good : (at : ℕ) (ls : List Line) → Lie (drop at text) ls → GoodRecords (records ended f at ls)
  unfolding records collected entry_step
  records-good at [] h = (tt, tt)
  records-good at (x ∷ ls) h =
      both-good at _ _ (at + width x) x.bytes (entry_line f x.bytes 0) (records ended f (at + width x) ls) (pairs ended f at (x ∷ ls)) h.0
      (entry_in f x.bytes 0 (omega arith)) (entry-stands f x.bytes 0) (records-good (at + width x) ls (rw (drop-drop (width x) at text) at h.1)) (pairs-good at (x ∷ ls))

-- the records of a text that is taken are good
parsed-good : (ended : Bool) (f : Form) → GoodForm f → (at e : ℕ) (text : List ℕ) (p : Parsed) → parsed_at ended f at e text ≡ fine p → Good p.form (named_of text p.records)
unfolding parsed_at named_of collected
parsed-good true f g at zero text p q = unlike 4 0 p q
parsed-good false f g at zero text p q =
    let same : record { form = f; head = at; records = record { entries = []; pairs = [] } } ≡ p = cc in
    subst (λ (x : Parsed). Good x.form (named_of text x.records)) same (record { low = g.0; high = g.1; entries = tt; pairs = tt })
parsed-good ended f g at (suc e) text p q =
    let rest : List Line = lines_of ended (drop (at + suc e) text) in
    let r = records-good ended f text (omega (arith, g.0)) (at + suc e) rest (lines-lie ended rest (drop (at + suc e) text) refl) in
    let same : record { form = f; head = pick ended (at + suc e) at; records = records ended f (at + suc e) rest } ≡ p = cc in
    subst (λ (x : Parsed). Good x.form (named_of text x.records)) same (record { low = g.0; high = g.1; entries = r.0; pairs = r.1 })

-- by the ended reading and by the plain one
pub what-is-read-can-be-written : (ended : Bool) (text : List ℕ) (p : Parsed) → parsed ended text ≡ fine p → Good p.form (named_of text p.records)
unfolding parsed parsed_from
what-is-read-can-be-written ended text p q = go (header text) refl q
  where
    go : (o : Option Head) → header text ≡ o → parsed_from ended o text ≡ fine p → Good p.form (named_of text p.records)
    go none e q = unlike 4 0 p q
    go (some h) e q = parsed-good ended h.form (header-good text h e) h.next (end_length (drop h.next text)) text p q

-- so what is written from the records of a text gives them back
pub what-is-read-reads-back : (ended : Bool) (text : List ℕ) (p : Parsed) → parsed ended text ≡ fine p → ReadsBack p.form (named_of text p.records)
what-is-read-reads-back ended text p q = what-is-written-reads-back p.form (named_of text p.records) (what-is-read-can-be-written ended text p q)

-- and nothing else reads back: a text gives back the records that it was written from exactly if they are good
pub only-good-reads-back : (f : Form) (n : Named) → ReadsBack f n → Good f n
only-good-reads-back f n r =
    let g : Good (as_hex f) n = rw (← r.its-form, ← r.its-names) (what-is-read-can-be-written true (written f n) r.back r.accepted) in
    record { low = g.low; high = g.high; entries = g.entries; pairs = g.pairs }
