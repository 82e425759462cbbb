-- Demand 3: for every text that the ended reading accepts without refusal and every cut of it, what CutText of specs/ says.
-- Assumes nothing.
use Prim.Native.Nat.{ℕ, suc, ◌+◌, ◌-◌, ◌≤◌, ◌<◌}
use mathlib.Core.Path.{◌≡◌, refl, sym, ap, ◌∙◌, subst}
use mathlib.Core.List.{List}
use mathlib.Core.Option.{some}
use mathlib.Core.Bool.{true}
use lib.ListN.{length, take, drop}
use lib.Seq.{length-take-le}
use Rattle.format.specs.Header.{Head, header}
use Rattle.format.specs.Lines.{end_length, lines}
use Rattle.format.specs.Outcome.{Outcome, fine, refused, and_then}
use Rattle.format.specs.Records.{records, Parsed, parsed, ends}
use Rattle.format.specs.Reading.{Lent, allowed, Built, build, Read, headed, read_of, read, takes}
use Rattle.cut.specs.Cut.{inside, cut_records}
use Rattle.cut.proofs.Records.{Asc, ends_of, asc-records}
use Rattle.cut.proofs.Header.{head_in, head-out}
use Rattle.laws.proofs.Outcomes.{chain, follow}
use Rattle.laws.proofs.Headed.{headed-refused, is-headed, was-headed}
use Rattle.cut.proofs.Build.{build-cut}
use Rattle.cut.specs.Cut.{CutRead, CutText}
use Rattle.cut.proofs.Opened.{allowed-take, opened, parsed-at, lost-parsed, opens, cut_parsed, opened-cut}
use Rattle.cut.proofs.Verdict.{inside-le, all_append, finished-iff}

module _ (b : Lent) (text : List ℕ) (n : ℕ) (in_text : n ≤ length text) (h : Head) (e k : ℕ) (built : Built)
    (may : allowed b text ≡ fine k) (is-head : header text ≡ some h) (is-end : end_length (drop h.next text) ≡ suc e)
    (is-taken : takes true h.form.radix ≡ true) (is-built : build h.form (opened h e text).records ≡ fine built) where
  cut-before : n < h.next + suc e → read true b (take n text) ≡ refused 4 0
  unfolding read
  cut-before l =
      follow (allowed b (take n text)) _ (allowed-take b text n k may)
      (ap (λ (o : Outcome Parsed). and_then o read_of) (headed-refused true (take n text) 4 0 (lost-parsed (take n text) (head-out text n e h is-head is-end l))))

  cut-from : h.next + suc e ≤ n → CutRead b text n (record { parsed = opened h e text; built = built })
  unfolding read read_of opened cut_parsed ends cut_records
  cut-from l =
      let kept = head_in text n e h (record { head = is-head; end = is-end }) l in
      let at : ℕ = h.next + suc e in
      let asc : Asc at (ends (opened h e text).records) = asc-records h.form at (lines (drop at text)) in
      let f = build-cut h.form n at (opened h e text).records built asc is-built in
      let same : parsed true (take n text) ≡ fine (cut_parsed n (opened h e text)) =
      parsed-at h e (take n text) kept.head kept.end ∙ ap {B = Outcome Parsed} fine (opened-cut h e n text l) in
      record {
        cut = record { parsed = cut_parsed n (opened h e text); built = f.value };
        accepted =
            follow (allowed b (take n text)) _ (allowed-take b text n k may)
            (follow (headed true (take n text)) read_of (is-headed true (take n text) (cut_parsed n (opened h e text)) same is-taken)
            (follow (build h.form (cut_records n (opened h e text).records)) _ f.is-fine refl));
        same-form = refl;
        same_head = refl;
        its-records = refl;
        its-images = f.is-fine;
        its-verdict = finished-iff (take n text) n (cut_parsed n (opened h e text)) (length-take-le n text in_text) l (subst (λ (p : Parsed). Asc p.head (ends p.records)) (opened-cut h e n text l) (asc-records h.form at (lines (drop at (take n text)))))
            (all_append n (ends_of (inside n (opened h e text).records.entries)) (ends_of (inside n (opened h e text).records.pairs))
            (inside-le n (opened h e text).records.entries) (inside-le n (opened h e text).records.pairs));
      }

  cut-both : CutText b text n (record { parsed = opened h e text; built = built })
  unfolding opened
  cut-both = record { before = cut-before; from-there = cut-from }

-- demand 3
pub a-cut-gives-the-records-inside-it : (b : Lent) (text : List ℕ) (n : ℕ) (whole : Read) → n ≤ length text → read true b text ≡ fine whole → CutText b text n whole
unfolding read read_of opened
a-cut-gives-the-records-inside-it b text n whole l h =
    let one = chain (allowed b text) _ whole h in
    let two = chain (headed true text) read_of whole one.second in
    let taken = was-headed true text two.value two.first in
    let three = chain (build two.value.form two.value.records) _ whole two.second in
    let o = opens text two.value taken.parses in
    let same : record { parsed = opened o.h o.e text; built = three.value } ≡ whole =
    ap (λ (p : Parsed). record { parsed = p; built = three.value }) o.same ∙ cc three.second in
    let is-taken : takes true (opened o.h o.e text).form.radix ≡ true = subst (λ (p : Parsed). takes true p.form.radix ≡ true) (sym o.same) taken.taken in
    let is-built : build (opened o.h o.e text).form (opened o.h o.e text).records ≡ fine three.value =
    subst (λ (p : Parsed). build p.form p.records ≡ fine three.value) (sym o.same) three.first in
    subst (λ (w : Read). CutText b text n w) same (cut-both b text n l o.h o.e one.value three.value one.first o.is-head o.is-end is-taken is-built)
