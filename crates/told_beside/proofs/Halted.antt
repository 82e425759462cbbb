-- From the reading's records to the halt of the text.
-- Assumes nothing.
use Prim.Native.Nat.{ℕ}
use mathlib.Core.Path.{◌≡◌, refl, sym, ap, subst, ◌∙◌}
use mathlib.Core.Bool.{Bool, true, false}
use mathlib.Core.List.{List, map}
use mathlib.Core.Option.{some}
use native.Mathlib.Omega.{arith}
use lib.ListN.{length}
use lib.Dec.{eqb, ltb}
use Rattle.format.specs.Lists.{pick}
use Rattle.format.specs.Lines.{lines_of}
use Rattle.format.specs.Entries.{Entry}
use Rattle.format.specs.Outcome.{fine}
use Rattle.format.specs.Records.{Parsed, Taken, finished, last_of, parsed, stop, stopped, verdict}
use Rattle.laws.specs.Places.{records_at}
use Rattle.laws.proofs.Opened.{opened, opens}
use Rattle.halt.specs.Halt.{any, halt_at, halt_of}
use Rattle.halt.proofs.Told.{finished-tells-nothing, stopped-tells}
use Rattle.halt.proofs.Paired.{paired-is-a-later-stop}
use Rattle.counts_of.specs.Told.{group_one_end}
use Rattle.answer.specs.Answer as reads
use Rattle.answer.specs.declared.Verdict as reading
use Rattle.answer.specs.declared.Verdict.TheVariants as reading-verdict
use Rattle.ended_answer.specs.Answer.{halt_in}
use Rattle.told_beside.specs.Beside.{halt_behind, judged}

-- group one ends where its last record does
group-one-end : (text : List ℕ) (p : Parsed) → parsed true text ≡ fine p → group_one_end p.form text p.head ≡ last_of p.head (map (λ (t : Taken Entry). t.end) p.records.entries)
unfolding group_one_end records_at opened lines_of
group-one-end text p e =
    let o = opens text p e in
    subst (λ (x : Parsed). last_of x.head (map (λ (t : Taken Entry). t.end) (records_at true x.form text x.head).entries) ≡ last_of x.head (map (λ (t : Taken Entry). t.end) x.records.entries)) o.same refl

-- a stopped verdict's place is the stop
stops-there : (t : Bool) (s place : ℕ) → pick t finished (stopped s) ≡ stopped place → s ≡ place
stops-there true s place q = let z : ◌≡◌ {A = ℕ} 0 1 = cc in let y : ⊥ = omega arith in absurd y
stops-there false s place q = cc

module _ (text : List ℕ) (p : Parsed) (e : parsed true text ≡ fine p) where
  -- the halt that the code looks for is the halt of the records
  pub halt-there : (place : ℕ) → verdict text p ≡ stopped place → halt_behind p.form text p.head place ≡ halt_at p.form (any p.records.pairs) text place
  unfolding verdict
  halt-there place v =
      let there : stop p ≡ place = stops-there (eqb (stop p) (length text)) (stop p) place v in
      let paired : ltb (group_one_end p.form text p.head) (stop p) ≡ any p.records.pairs =
      ap (λ (n : ℕ). ltb n (stop p)) (group-one-end text p e) ∙ sym (paired-is-a-later-stop text p e) in
      ap (λ (b : Bool). halt_at p.form b text place) (ap (λ (n : ℕ). ltb (group_one_end p.form text p.head) n) (sym there) ∙ paired)

  -- so a reading's verdict is told with the halt of the text
  pub judged-halt : (v : reading.Verdict) → reads.told_verdict v ≡ verdict text p → halt_in (judged p.form text p.head v) ≡ halt_of text
  unfolding verdict
  judged-halt reading-verdict.Finished q = sym (finished-tells-nothing text p e (sym q))
  judged-halt (reading-verdict.Stopped place) q =
      ap some (halt-there place (sym q))
      ∙ ap (λ (n : ℕ). some (halt_at p.form (any p.records.pairs) text n)) (sym (stops-there (eqb (stop p) (length text)) (stop p) place (sym q)))
      ∙ sym (stopped-tells text p e place (sym q))
