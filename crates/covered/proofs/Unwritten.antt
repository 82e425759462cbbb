-- A position counts as unwritten exactly if the reader of one position finds no line.
-- Assumes nothing.
use Prim.Native.Nat.{ℕ, suc, ◌+◌, ◌<◌}
use mathlib.Core.Path.{◌≡◌, refl, sym, ap, ◌∙◌}
use mathlib.Core.Bool.{Bool, true, false}
use mathlib.Core.List.{List}
use mathlib.Core.Option.{Option, none, some}
use native.Mathlib.Omega.{arith}
use lib.ListN.{length, get_or, replicate, get_or-replicate, length-replicate}
use borrow.Author.Tests.{lt-ltb}
use Rattle.format.specs.Lists.{pick}
use Rattle.format.specs.Outcome.{Outcome, fine}
use Rattle.format.specs.Placing.{extent}
use Rattle.format.specs.Reading.{Read, read}
use Rattle.format.specs.Tables.{offset, rank, total}
use Rattle.laws.proofs.Outcomes.{follow}
use Rattle.order.specs.Writes.{written}
use Rattle.order.proofs.Areas.{ends-inside}
use Rattle.last_writer.specs.LastWriter.{Found, last_writer, position_in, span_from, writer_in, writer_of}
use Rattle.last_writer.proofs.Spans.{an-areas-span, span_of}
use Rattle.record_rows.specs.ReadPairs.{roomy}
use Rattle.covered.specs.Covered.{map_of}
use Rattle.covered.proofs.Maps.{marked-where-written}

-- what a map says of a position by what was found there
unwritten-is : (o : Option Found) → ◌≡◌ {A = ℕ} (pick (written o) 1 0) 0 → o ≡ none
unwritten-is none h = refl
unwritten-is (some x) h = let z : ⊥ = omega arith in absurd z

found_none : (o : Option Found) → ◌≡◌ {A = Outcome (Option Found)} (fine o) (fine none) → o ≡ none
found_none none h = refl
found_none (some x) h = let z : ◌≡◌ {A = ℕ} 0 1 = cc in let y : ⊥ = omega arith in absurd y

module _ (text : List ℕ) (id position i : ℕ) (w : Read) (accepted : read true roomy text ≡ fine w) (ranked : rank 0 w.built.tables.areas i ≡ some id) (inside : position < extent w.built.tables.areas i) where
  abbrev map : List ℕ
  map = map_of w.parsed.form w.built.tables w.parsed.records.pairs

  abbrev place : ℕ
  place = offset w.built.tables.areas i + position

  abbrev last : Option Found
  last = last_writer w.parsed.form w.built.tables w.parsed.records.pairs place

  answer : writer_in true roomy text id position ≡ fine last
  unfolding writer_in writer_of span_of
  answer =
      let areas = w.built.tables.areas in
      let r : rank 0 areas i ≡ some (0 + id) = ranked ∙ ap (λ (n : ℕ). some n) (omega arith) in
      let p : position_in position (span_from 0 areas id) ≡ fine place = ap (position_in position) (an-areas-span areas 0 0 id i r) ∙ simp (lt-ltb position (extent areas i) inside) (ap {B = Outcome ℕ} fine (omega arith)) in
      follow (read true roomy text) _ accepted (follow (position_in position (span_from 0 areas id)) _ p refl)

  low : place < total w.built.tables.areas
  low = omega (arith, ends-inside w.built.tables.areas i)

  marked : get_or map place 0 ≡ pick (written last) 1 0
  unfolding map_of
  marked =
      let n = total w.built.tables.areas in
      marked-where-written w.parsed.form w.built.tables w.parsed.records.pairs (replicate n 0) place (simp length-replicate low)
      ∙ ap (λ (x : ℕ). pick (written last) 1 x) (get_or-replicate n place 0 0 low)

  -- for every accepted module and every position of a kept area: 0 in the map exactly where the reader of one position finds no line
  pub unwritten-exactly-if-no-line : (get_or map place 0 ≡ 0 → writer_in true roomy text id position ≡ fine none) × (writer_in true roomy text id position ≡ fine none → get_or map place 0 ≡ 0)
  unwritten-exactly-if-no-line = (
    λ h. answer ∙ ap (λ (o : Option Found). fine o) (unwritten-is last (sym marked ∙ h)),
    λ h. marked ∙ ap (λ (o : Option Found). pick (written o) 1 0) (found_none last (sym answer ∙ h)),
  )
