-- A module that is converted gives what the old one gave; and what is not written was refused, stopped or too long.
-- Assumes nothing.
use Prim.Native.Nat.{ℕ, ◌≤◌}
use mathlib.Core.Path.{◌≡◌, refl, subst}
use mathlib.Core.Bool.{Bool, false, true}
use mathlib.Core.List.{List}
use native.Mathlib.Omega.{arith}
use lib.ListN.{length}
use lib.Dec.{leb}
use borrow.Author.Tests.{leb-true}
use Rattle.format.specs.Lists.{pick}
use Rattle.format.specs.Outcome.{Outcome, fine, refused}
use Rattle.format.specs.Records.{Verdict, finished, parsed, stopped, verdict}
use Rattle.format.specs.Reading.{Lent, Read, allowed, build, read_of}
use Rattle.laws.proofs.Outcomes.{chain}
use Rattle.record_rows.specs.ReadPairs.{roomy}
use Rattle.any_radix.specs.ReadAny.{read_any}
use Rattle.written.specs.Alike.{ReadAgain, rewritten}
use Rattle.written.proofs.ReadAgain.{what-is-rewritten-of-any-radix}
use Rattle.converted.specs.Convert.{by_verdict, convert, convert_of, refusal, rewrite, written_as}
use Rattle.converted.specs.Gives.{GivesTheSame}

-- what is read and no longer than a text may be is accepted when it is written as X
again : (b : Lent) (text : List ℕ) (r : Read) → read_any b text ≡ fine r → length (rewritten text r) ≤ 65536 → ReadAgain b text r
unfolding read_any read_of
again b text r h i =
    let one = chain (allowed b text) _ r h in
    let two = chain (parsed true text) read_of r one.second in
    let three = chain (build two.value.form two.value.records) _ r two.second in
    let same : record { parsed = two.value; built = three.value } ≡ r = cc three.second in
    subst (λ (x : Read). length (rewritten text x) ≤ 65536 → ReadAgain b text x) same
    (λ j. what-is-rewritten-of-any-radix true b text one.value two.value three.value one.first two.first three.first j) i

-- an answer that is a text was written from a reading that is finished
no_text : {A : Type 0} (n p : ℕ) (new : List ℕ) → refusal n p ≡ written_as new → A
no_text n p new e = let z : ◌≡◌ {A = ℕ} 0 1 = cc in let y : ⊥ = omega arith in absurd y

module _ (old new : List ℕ) (r : Read) (h : read_any roomy old ≡ fine r) (v : verdict old r.parsed ≡ finished) where
  short : (t : Bool) → leb (length (rewritten old r)) 65536 ≡ t → pick t (written_as (rewritten old r)) (refusal 15 0) ≡ written_as new → GivesTheSame old new
  short false e q = no_text 15 0 new q
  short true e q =
      let a = again roomy old r h (leb-true (length (rewritten old r)) 65536 e) in
      let same : rewritten old r ≡ new = cc in
      subst (λ (x : List ℕ). GivesTheSame old x) same
      (record {
        was = r;
        read-old = h;
        was-finished = v;
        is = a.again;
        accepted = a.accepted;
        is-finished = a.is-finished;
        its-form = a.its-form;
        its-records = a.its-records;
        its-built = a.its-built;
        its-counts = a.its-counts;
        its-fixups = a.its-fixups;
      })

-- what is written gives the same tables, images and fixups, as many of each, and is finished
pub what-is-converted-gives-the-same : (old new : List ℕ) → convert old ≡ written_as new → GivesTheSame old new
unfolding convert rewrite
what-is-converted-gives-the-same old new e = go (read_any roomy old) refl e
  where
    told : (r : Read) → read_any roomy old ≡ fine r → (v : Verdict) → verdict old r.parsed ≡ v → by_verdict old r v ≡ written_as new → GivesTheSame old new
    told r h finished v q = short old new r h v (leb (length (rewritten old r)) 65536) refl q
    told r h (stopped place) v q = let z : ◌≡◌ {A = ℕ} 0 1 = cc in let y : ⊥ = omega arith in absurd y

    go : (o : Outcome Read) → read_any roomy old ≡ o → convert_of old o ≡ written_as new → GivesTheSame old new
    go (refused n p) h q = no_text n p new q
    go (fine r) h q = told r h (verdict old r.parsed) refl q
