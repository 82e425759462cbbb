-- The names of a text's records lie in the text.
-- Assumes nothing.
use Prim.Native.Nat.{suc, ℕ, ◌+◌, ◌-◌}
use mathlib.Core.Path.{◌≡◌, ap, refl, ◌∙◌}
use mathlib.Core.Bool.{Bool, false, true, ◌&&◌}
use mathlib.Core.List.{List, [], ◌∷◌}
use native.Mathlib.Omega.{arith}
use lib.ListN.{drop, length, length-drop, length-take, take}
use lib.Seq.{drop-drop}
use lib.Dec.{eqb, leb}
use Rattle.format.specs.Lists.{pick}
use Rattle.format.specs.Got.{Got, is, isnt}
use Rattle.format.specs.Lines.{Line, lines, lines_of, width}
use Rattle.format.specs.Header.{Form}
use Rattle.format.specs.Entries.{Entry, area, entry_line, ignored, symbol}
use Rattle.format.specs.Outcome.{fine}
use Rattle.format.specs.Pairs.{Pair}
use Rattle.format.specs.Records.{Parsed, Records, Taken, both, entry_step, goes, pairs, parsed, records, step_of, stops}
use Rattle.laws.proofs.Opened.{opened, opens}
use Rattle.laws.proofs.Within.{EntryIn, Holds, Named as NamedIn, entry_in}
use Rattle.written.proofs.Read.{Lie, lines-lie}
use Rattle.row_records.proofs.Entries.{AllLie, EntryLies}

module _ (f : Form) (text : List ℕ) where
  entry-lies : (at : ℕ) (s : List ℕ) (e : Entry) → s ≡ take (length s) (drop at text) → NamedIn s e → EntryLies text at e
  entry-lies at s ignored q i = tt
  entry-lies at s (area n z g a) q i =
      let e : length s ≡ _ = ap length q ∙ length-take (length s) (drop at text) in omega (arith, e, length-drop at text, i)
  entry-lies at s (symbol n r v) q i =
      let e : length s ≡ _ = ap length q ∙ length-take (length s) (drop at text) in omega (arith, e, length-drop at text, i)

  both-lie : (at n e next : ℕ) (s : List ℕ) (g : Got Entry) (rest : Records) (two : List (Taken Pair)) → s ≡ take (length s) (drop at text)
      → Holds (EntryIn s) g → AllLie text rest.entries → AllLie text (both (step_of true at n e next g) rest two).entries
  both-lie at n e next s (isnt r p) rest two q i k = tt
  both-lie at n e next s (is a used) rest two q i k = go (eqb used n && leb 1 e)
    where
      go : (t : Bool) → AllLie text (both (pick t (goes (record { place = at; end = next; body = a })) stops) rest two).entries
      go true = (entry-lies at s a q i.1, k)
      go false = tt

  records-lie : (at : ℕ) (ls : List Line) → Lie (drop at text) ls → AllLie text (records true f at ls).entries
  unfolding records entry_step
  records-lie at [] h = tt
  records-lie at (x ∷ ls) h =
      both-lie at _ _ (at + width x) x.bytes (entry_line f x.bytes 0) (records true f (at + width x) ls) (pairs true f at (x ∷ ls)) h.0
      (entry_in f x.bytes 0 (omega arith)) (records-lie (at + width x) ls (rw (drop-drop (width x) at text) at h.1))

pub names-lie : (text : List ℕ) (p : Parsed) → parsed true text ≡ fine p → AllLie text p.records.entries
unfolding opened lines_of
names-lie text p e =
    let o = opens text p e in
    let at = o.h.next + suc o.e in
    rw (← o.same) (records-lie o.h.form text at (lines (drop at text)) (lines-lie true (lines (drop at text)) (drop at text) refl))
