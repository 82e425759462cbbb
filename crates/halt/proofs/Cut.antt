-- The halt of a cut text. A cut before the header line's end tells nothing; behind it the halt is that of the lines at the cut's own stop, and
-- lies inside the cut; a cut behind the lines at the whole's stop changes neither reason nor place.
-- Assumes nothing.
use Prim.Native.Nat.{ℕ, ◌≤◌, ◌<◌}
use mathlib.Core.Path.{◌≡◌, sym, ap, ◌∙◌}
use mathlib.Core.Bool.{true}
use mathlib.Core.List.{List}
use mathlib.Core.Option.{Option, none, some}
use native.Mathlib.Omega.{arith}
use lib.ListN.{length, take}
use lib.Seq.{length-take-le}
use Rattle.format.specs.Outcome.{Outcome, fine}
use Rattle.format.specs.Records.{Parsed, parsed, stop, verdict}
use Rattle.laws.specs.Places.{next_line}
use Rattle.cut.specs.Cut.{cut_records, inside}
use Rattle.cut.proofs.Opened.{cut_parsed}
use Rattle.cut.proofs.ParsedCut.{a-late-cut-keeps-the-records, cut-parsed, ends-to-stop, lost-cut}
use Rattle.halt.specs.Halt.{Halt, any, halt_at, halt_of, told_if}
use Rattle.halt.proofs.Told.{halt-is, refused-tells-nothing, stopped-tells}
use Rattle.halt.proofs.Stop.{left-not-finished}
use Rattle.halt.proofs.Place.{Within, the-halt-is-within}
use Rattle.halt.proofs.Local.{nothing-behind-the-lines}

module _ (text : List ℕ) (p : Parsed) (e : parsed true text ≡ fine p) (n : ℕ) where
  -- cut before the header line's end
  pub cut-before-tells-nothing : n < p.head → halt_of (take n text) ≡ none
  cut-before-tells-nothing l = refused-tells-nothing (take n text) 4 0 (lost-cut text p e n l)

  -- the halt of a cut: of the lines at the cut's own stop, in the cut text, with whether a pair lies inside the cut
  pub the-halt-of-a-cut : p.head ≤ n
      → halt_of (take n text) ≡ told_if (verdict (take n text) (cut_parsed n p)) (halt_at p.form (any (inside n p.records.pairs)) (take n text) (stop (cut_parsed n p)))
  unfolding cut_parsed cut_records
  the-halt-of-a-cut l = halt-is (take n text) (cut_parsed n p) (cut-parsed text p e n l)

  -- it lies inside the cut, at or behind the cut's own stop; its reason is 1 to 4
  pub a-cut-halts-inside-it : n ≤ length text → p.head ≤ n → (h : Halt) → halt_of (take n text) ≡ some h → Within (take n text) (stop (cut_parsed n p)) h × (h.place ≤ n)
  a-cut-halts-inside-it m l h q =
      let w = the-halt-is-within (take n text) (cut_parsed n p) h (cut-parsed text p e n l) q in
      (w.1, omega (arith, w.1.in-the-text, length-take-le n text m))

  -- a cut behind the two lines at the stop changes neither reason nor place
  pub a-cut-behind-the-lines-keeps-the-halt : n ≤ length text → stop p < n → next_line text (next_line text (stop p)) ≤ n → halt_of (take n text) ≡ halt_of text
  a-cut-behind-the-lines-keeps-the-halt m l k =
      let z = ends-to-stop text p e n in
      let same : parsed true (take n text) ≡ fine p = cut-parsed text p e n (omega arith) ∙ ap {B = Outcome Parsed} fine (a-late-cut-keeps-the-records text p e n (omega arith)) in
      let stopped-cut = left-not-finished (take n text) p same (omega (arith, length-take-le n text m)) in
      let stopped-whole = left-not-finished text p e (omega arith) in
      stopped-tells (take n text) p same (stop p) stopped-cut
      ∙ ap {B = Option Halt} some (nothing-behind-the-lines p.form (any p.records.pairs) text (stop p) n k)
      ∙ sym (stopped-tells text p e (stop p) stopped-whole)
