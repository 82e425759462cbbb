-- The laws of the rows that are written: what the writer answers to them is what a module is converted to.
-- Assumes nothing.
use Prim.Native.Nat.{ℕ, ◌≤◌}
use mathlib.Core.Path.{◌≡◌, ap, refl, subst, sym, ◌∙◌}
use mathlib.Core.Bool.{Bool, false, true}
use mathlib.Core.List.{List}
use mathlib.Core.Logic.{◌↔◌}
use native.Mathlib.Omega.{arith}
use lib.ListN.{drop, length, length-replicate, replicate}
use lib.Dec.{leb}
use borrow.Author.Rules.{rules}
use borrow.Author.Tests.{le-leb, leb-true}
use Rattle.format.specs.Header.{Form}
use Rattle.format.specs.Lists.{over, pick}
use Rattle.format.specs.Pairs.{Pair}
use Rattle.format.specs.Records.{Taken}
use Rattle.format.specs.Reading.{Read}
use Rattle.any_radix.specs.PairsAny.{PairsMeetAny, read_pairs_any}
use Rattle.record_rows.specs.ReadPairs as paper
use Rattle.record_rows.specs.ReadPairs.{HeldPairs, PairsReading, laid_over, pairs_room}
use Rattle.record_rows.specs.RecordRows.{content_bytes, fragment_rows, pair_count, pair_rows}
use Rattle.pairs_answer.specs.Told as rows
use Rattle.pairs_answer.specs.Told.{held}
use Rattle.pair_rows.specs.declared.PairCounts.{PairCounts}
use Rattle.std.specs.Prelude.{Ok, Err}
use Rattle.answer.specs.declared.Refusal as answers
use Rattle.pairs_answer.specs.Told.{PairsAnswer}
use Rattle.row_texts.specs.RowRecords.{Rows, lent, text_of}
use Rattle.row_texts.specs.GivesBack.{GivesBack}
use Rattle.row_records.specs.Left.{Left}
use Rattle.row_records.proofs.Theorem.{given-back-exactly-if-short, what-is-left-is-written}
use Rattle.written.specs.Alike.{rewritten}
use Rattle.written_answer.specs.Answer as writing
use Rattle.writer.specs.Writes.{Writes}
use Rattle.written_answer.specs.Answer.{Tells}
use Rattle.std.specs.Prelude.{Result, Ok, Err}
use Rattle.written_answer.specs.declared.Refusal as wrote
use Rattle.converted.specs.Convert as converts
use Rattle.converted.specs.Convert.{by_verdict, convert, convert_of, rewrite}
use Rattle.convert_answer.specs.Converts.{Answer, Converts, answer_of, bytes, held_of, refusal, told}
use Rattle.convert_module.specs.Kept.{Whole}
use Rattle.convert_module.specs.Written.{written}
use Rattle.convert_answer.specs.declared.Converted.TheVariants.{Bytes, Refusal}
use Rattle.convert_module.proofs.Steps.{steps}

-- `as_written`
pub written-refused : {a : Result ℕ wrote.Refusal} {s : wrote.Refusal} → a ≡ Err s → told (Refusal s.number s.place) ≡ written (writing.told a)
written-refused e = rw e

pub written-bytes : {a : Result ℕ wrote.Refusal} {n : ℕ} → a ≡ Ok n → told (Bytes n) ≡ written (writing.told a)
written-bytes e = rw e

pub ruleset answering = (rules, written-refused, written-bytes)

-- the writer's flag, where rows are given back exactly if their text is short
flag : (n : ℕ) (P : Type 0) (g : Bool) → Tells g P → (n ≤ 65536) ↔ P → g ≡ leb n 65536
flag n P true t i = sym (le-leb n 65536 (i.1 t))
flag n P false t i = go (leb n 65536) refl
  where
    go : (u : Bool) → leb n 65536 ≡ u → false ≡ u
    go true e = absurd (t (i.0 (leb-true n 65536 e)))
    go false e = refl

-- the writer's answer by that flag
room-asked : (u : Bool) (n : ℕ) → written (pick u (writing.bytes n) (writing.refusal 16 0)) ≡ pick u (bytes n) (refusal 16 0)
room-asked true n = refl
room-asked false n = refl

says-by : (t out : List ℕ) (g : Bool) → written (writing.answer_of g (length t) out) ≡ answer_of out (pick g (converts.written_as t) (converts.refusal 15 0))
unfolding writing.answer_of
says-by t out true = room-asked (leb (length t) (length out)) (length t)
says-by t out false = refl

held_by : (t out : List ℕ) (g : Bool) → writing.held_of g (length t) t out ≡ held_of out (pick g (converts.written_as t) (converts.refusal 15 0))
unfolding writing.held_of
held_by t out true = refl
held_by t out false = refl

-- the rows of a module that was read to its last byte, with those of its T and R records
module _ {text areas symbols : List ℕ} {f : Form} {na ns : ℕ} (w : Whole text f areas na symbols ns) {ps bs fs : List ℕ} (lp : length ps ≡ 28672) (lb : length bs ≡ 32768) (lf : length fs ≡ 24576)
    {ps' bs' fs' : List ℕ} {t : paper.PairsAnswer} (m : PairsMeetAny text (held ps bs fs) t (held ps' bs' fs')) where
  abbrev r : Read
  r = w.kept.read

  roomy-pairs : pairs_room (held ps bs fs) ≡ true
  unfolding pairs_room
  roomy-pairs = rw (lp, lb, lf)

  abbrev its-rows : PairsReading
  its-rows = record { answer = paper.accepted (paper.counts_of r.parsed.records.pairs); rows = paper.rows_of r.parsed.records.pairs }

  is : read_pairs_any (held ps bs fs) text ≡ its-rows
  unfolding read_pairs_any
  is = rw (roomy-pairs, w.kept.is_read)

  -- a text that was read has its records
  answered : t ≡ paper.accepted (paper.counts_of r.parsed.records.pairs)
  answered = m.says ∙ ap (λ (y : PairsReading). y.answer) is

  laid : held ps' bs' fs' ≡ laid_over (paper.rows_of r.parsed.records.pairs) (held ps bs fs)
  laid = m.held ∙ ap (λ (y : PairsReading). laid_over y.rows (held ps bs fs)) is

  module _ {np : ℕ} (n : np ≡ pair_count r.parsed.records.pairs) where
    abbrev all : Rows
    all = lent text areas na symbols ns ps' np bs' fs'

    left : Left text r all
    unfolding over paper.rows_of
    left = record {
      is-text = refl;
      behind-areas = w.kept.behind-areas;
      areas = w.kept.areas-are;
      area-count = w.kept.area-count;
      behind-symbols = w.kept.behind-symbols;
      symbols = w.kept.symbols-are;
      symbol-count = w.kept.symbol-count;
      behind-pairs = drop (length (pair_rows 0 0 r.parsed.records.pairs)) ps;
      pairs = ap (λ (h : HeldPairs). h.pairs) laid;
      pair-count = n;
      behind-content = drop (length (content_bytes r.parsed.records.pairs)) bs;
      content = ap (λ (h : HeldPairs). h.content) laid;
      behind-fragments = drop (length (fragment_rows r.parsed.records.pairs)) fs;
      fragments = ap (λ (h : HeldPairs). h.fragments) laid;
    }

    its-text : text_of f all ≡ rewritten text r
    its-text =
        let k = steps text r w.kept.is_read in
        ap (λ (x : Form). text_of x all) w.its-form ∙ what-is-left-is-written text r all k.parses k.enters left

    short-exactly : (length (rewritten text r) ≤ 65536) ↔ GivesBack f all
    short-exactly =
        let k = steps text r w.kept.is_read in
        subst (λ (x : Form). (length (rewritten text r) ≤ 65536) ↔ GivesBack x all) (sym w.its-form)
        (given-back-exactly-if-short text r all k.parses k.enters left k.passes k.allows k.builds)

    converted : convert text ≡ pick (leb (length (rewritten text r)) 65536) (converts.written_as (rewritten text r)) (converts.refusal 15 0)
    unfolding convert rewrite
    converted = ap (convert_of text) w.kept.is_read ∙ ap (by_verdict text r) w.is-finished

    -- what the writer answers
    told-so : {b : writing.Answer} {out out' : List ℕ} → Writes f all out b out' → Converts text out (written b) out'
    told-so {b} {out} {out'} y =
        let v = rewritten text r in
        let u : y.gives ≡ leb (length v) 65536 = flag (length v) (GivesBack f all) y.gives y.tells short-exactly in
        record {
          says =
              ap written (y.says ∙ ap (λ (z : List ℕ). writing.answer_of y.gives (length z) out) its-text)
              ∙ says-by v out y.gives
              ∙ ap (λ (g : Bool). answer_of out (pick g (converts.written_as v) (converts.refusal 15 0))) u
              ∙ sym (ap (answer_of out) converted);
          held =
              y.held
              ∙ ap (λ (z : List ℕ). writing.held_of y.gives (length z) z out) its-text
              ∙ held_by v out y.gives
              ∙ ap (λ (g : Bool). held_of out (pick g (converts.written_as v) (converts.refusal 15 0))) u
              ∙ sym (ap (held_of out) converted);
        }

-- how many pairs were told
pairs-counted : (c : PairCounts) (ps : List (Taken Pair)) → paper.accepted (rows.told_counts c) ≡ paper.accepted (paper.counts_of ps) → c.pairs ≡ pair_count ps
unfolding paper.counts_of
pairs-counted c ps q =
    let z : rows.told_counts c ≡ paper.counts_of ps = cc in
    ap (λ (n : paper.PairCounts). n.pairs) z

no-refusal : {A : Type 0} (n p : ℕ) (c : paper.PairCounts) → paper.refusal n p ≡ paper.accepted c → A
no-refusal n p c e = let z : ◌≡◌ {A = ℕ} 0 1 = cc in let y : ⊥ = omega arith in absurd y

-- `write_with`
module _ {text areas symbols : List ℕ} {f : Form} {na ns : ℕ} (w : Whole text f areas na symbols ns) {ps bs fs : List ℕ} (lp : length ps ≡ 28672) (lb : length bs ≡ 32768) (lf : length fs ≡ 24576)
    {ps' bs' fs' : List ℕ} {a : PairsAnswer} (m : PairsMeetAny text (held ps bs fs) (rows.told a) (held ps' bs' fs')) where
  pub pairs-there : {z : answers.Refusal} → a ≡ Err z → (x : Answer) (out : List ℕ) → Converts text out x out
  pairs-there {z} g x out = no-refusal z.number z.place _ (ap rows.told (sym g) ∙ answered w lp lb lf m)

  pub write-told : {c : PairCounts} → a ≡ Ok c → {b : writing.Answer} {out out' : List ℕ} → Writes f (lent text areas na symbols ns ps' c.pairs bs' fs') out b out'
      → {x : Answer} → x ≡ written b → Converts text out x out'
  write-told {c} g {b} {out} {out'} y {x} e =
      let n = pairs-counted c w.kept.read.parsed.records.pairs (ap rows.told (sym g) ∙ answered w lp lb lf m) in
      subst (λ (z : Answer). Converts text out z out') (sym e) (told-so w lp lb lf m n y)

pub ruleset writes = (rules, pairs-there, write-told)

-- `write_kept`
zeros : (n : ℕ) → length {A = ℕ} (replicate n 0) ≡ n
zeros n = length-replicate {A = ℕ} n 0

pub fresh-pairs : length {A = ℕ} (replicate 28672 0) ≡ 28672
fresh-pairs = zeros 28672

pub fresh-content : length {A = ℕ} (replicate 32768 0) ≡ 32768
fresh-content = zeros 32768

pub fresh-fragments : length {A = ℕ} (replicate 24576 0) ≡ 24576
fresh-fragments = zeros 24576

pub ruleset keeping = (rules, fresh-pairs, fresh-content, fresh-fragments)
