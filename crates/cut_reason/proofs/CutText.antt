-- A text cut before its stop is told with reason 1 or 4, unless the cut lies in a T and P pair: what the whole reads has no number that is too large,
-- and a cut makes none.
-- Assumes nothing.
use Prim.Native.Nat.{ℕ, suc, ◌+◌, ◌-◌, ◌≤◌, ◌<◌}
use mathlib.Core.Path.{◌≡◌, refl, sym, ap, subst, ◌∙◌}
use mathlib.Core.Bool.{Bool, true, false}
use mathlib.Core.List.{List, [], ◌∷◌, ◌++◌}
use native.Mathlib.Omega.{arith}
use lib.ListN.{length, take, drop}
use lib.Seq.{length-take-le}
use lib.Dec.{leb}
use borrow.Author.Tests.{leb-true, leb-false}
use Rattle.format.specs.Got.{is}
use Rattle.format.specs.Lines.{lines, lines_of}
use Rattle.format.specs.Header.{Form}
use Rattle.format.specs.Entries.{Entry}
use Rattle.format.specs.Pairs.{Pair}
use Rattle.format.specs.Outcome.{fine}
use Rattle.format.specs.Records.{Parsed, Records, Step, Taken, both, consed, ends, goes, last, last_of, parsed, stop, stops}
use Rattle.laws.specs.Places.{entry_at, next_line, pair_at, pairs_at, records_at}
use Rattle.laws.proofs.Places.{pairs-at, records-at}
use Rattle.cut.specs.Cut.{cut_records, inside}
use Rattle.cut.proofs.Records.{Asc, asc-left, asc-records, asc-right, behind, ends_of, inside-drop, inside-keep}
use Rattle.cut.proofs.Opened.{cut_parsed, opened, opens}
use Rattle.halt.specs.Halt.{Halt, any, halt_at}
use Rattle.halt.proofs.Told.{what-is-told}
use Rattle.halt.proofs.Stop.{bytes_left}
use Rattle.cut.proofs.Steps.{entry-goes, entry-no-last, pair_end, pair-no-last}
use Rattle.cut.proofs.ParsedCut.{cut-parsed}
use Rattle.cut_reason.specs.CutReason.{AllPlaced, IsPlaced, Mild, ToldMildly}
use Rattle.cut_reason.proofs.CutPlace.{a-cut-inside-a-pair, a-cut-inside-an-entry}

module _ (f : Form) (text : List ℕ) (n : ℕ) where
  -- where a cut lies: in the record of the whole that begins at the cut's own stop
  pub data CutIn (q : ℕ) (ps : List (Taken Pair)) : Type 0 where
    in_entry : (t : Taken Entry) → entry_at true f text q ≡ goes t → n < next_line text q → ps ≡ [] → CutIn q ps
    in_pair : (t : Taken Pair) → IsPlaced t → pair_at true f text q ≡ goes t → n < next_line text (next_line text q) → CutIn q ps

  -- among the pairs; the list of those inside the cut does not matter here
  pairs-where : (ps : List (Taken Pair)) (at : ℕ) (qs : List (Taken Pair)) → pairs_at true f text at ≡ ps → AllPlaced ps → Asc at (ends_of ps) → at ≤ n → n < last_of at (ends_of ps)
      → CutIn (last_of at (ends_of (inside n ps))) qs
  unfolding inside
  pairs-where [] at qs e a s l h = let z : ⊥ = omega arith in absurd z
  pairs-where (t ∷ ts) at qs e a s l h = go (pair_at true f text at) refl (λ q x. pairs-where ts q qs x a.1)
    where
      is : (x : Step Pair) → pair_at true f text at ≡ x → t ∷ ts ≡ consed x (pairs_at true f text (next_line text (next_line text at)))
      is x m = sym e ∙ pairs-at true f text at ∙ rw m

      which : (b : Bool) → leb t.end n ≡ b → pair_at true f text at ≡ goes t → pairs_at true f text t.end ≡ ts
          → ((q : ℕ) → pairs_at true f text q ≡ ts → Asc q (ends_of ts) → q ≤ n → n < last_of q (ends_of ts) → CutIn (last_of q (ends_of (inside n ts))) qs)
          → CutIn (last_of at (ends_of (inside n (t ∷ ts)))) qs
      which true w m r ih = rw (inside-keep n t ts (leb-true t.end n w)) (ih t.end r s.1 (leb-true t.end n w) h)
      which false w m r ih =
          let out : n < t.end = leb-false t.end n w in
          rw (inside-drop n t ts out, behind n t.end ts out s.1) (in_pair t a.0 m (omega (arith, pair_end f text at t m)))

      go : (x : Step Pair) → pair_at true f text at ≡ x
          → ((q : ℕ) → pairs_at true f text q ≡ ts → Asc q (ends_of ts) → q ≤ n → n < last_of q (ends_of ts) → CutIn (last_of q (ends_of (inside n ts))) qs)
          → CutIn (last_of at (ends_of (inside n (t ∷ ts)))) qs
      go stops m ih = let k = is stops m in let z : ◌≡◌ {A = ℕ} 0 1 = cc in let y : ⊥ = omega arith in absurd y
      go (last x) m ih = absurd (pair-no-last f text at x m)
      go (goes x) m ih =
          let k = is (goes x) m in
          let same : x ≡ t = cc in
          let rest : pairs_at true f text (next_line text (next_line text at)) ≡ ts = cc in
          let m' : pair_at true f text at ≡ goes t = m ∙ ap goes same in
          which (leb t.end n) refl m' (ap (pairs_at true f text) (pair_end f text at t m') ∙ rest) ih

  -- among all records
  records-where : (es : List (Taken Entry)) (ps : List (Taken Pair)) (at : ℕ) → records_at true f text at ≡ record { entries = es; pairs = ps } → AllPlaced ps
      → Asc at (ends_of es ++ ends_of ps) → at ≤ n → n < last_of at (ends_of es ++ ends_of ps) → CutIn (last_of at (ends_of (inside n es) ++ ends_of (inside n ps))) (inside n ps)
  unfolding inside
  records-where [] ps at e a s l h = go (entry_at true f text at) refl
    where
      is : (x : Step Entry) → entry_at true f text at ≡ x → both x (records_at true f text (next_line text at)) (pairs_at true f text at) ≡ record { entries = []; pairs = ps }
      is x m = rw (← m) (sym (records-at true f text at) ∙ e)

      go : (x : Step Entry) → entry_at true f text at ≡ x → CutIn (last_of at (ends_of (inside n ps))) (inside n ps)
      go stops m = pairs-where ps at (inside n ps) (ap (λ (r : Records). r.pairs) (is stops m)) a s l h
      go (last x) m = absurd (entry-no-last f text at x m)
      go (goes x) m =
          let k : x ∷ (records_at true f text (next_line text at)).entries ≡ [] = ap (λ (r : Records). r.entries) (is (goes x) m) in
          let z : ◌≡◌ {A = ℕ} 0 1 = cc in
          let y : ⊥ = omega arith in
          absurd y
  records-where (t ∷ ts) ps at e a s l h = go (entry_at true f text at) refl (λ q x. records-where ts ps q x a)
    where
      is : (x : Step Entry) → entry_at true f text at ≡ x → both x (records_at true f text (next_line text at)) (pairs_at true f text at) ≡ record { entries = t ∷ ts; pairs = ps }
      is x m = rw (← m) (sym (records-at true f text at) ∙ e)

      which : (b : Bool) → leb t.end n ≡ b → entry_at true f text at ≡ goes t → records_at true f text t.end ≡ record { entries = ts; pairs = ps }
          → ((q : ℕ) → records_at true f text q ≡ record { entries = ts; pairs = ps } → Asc q (ends_of ts ++ ends_of ps) → q ≤ n → n < last_of q (ends_of ts ++ ends_of ps)
          → CutIn (last_of q (ends_of (inside n ts) ++ ends_of (inside n ps))) (inside n ps))
          → CutIn (last_of at (ends_of (inside n (t ∷ ts)) ++ ends_of (inside n ps))) (inside n ps)
      which true w m r ih = rw (inside-keep n t ts (leb-true t.end n w)) (ih t.end r s.1 (leb-true t.end n w) h)
      which false w m r ih =
          let out : n < t.end = leb-false t.end n w in
          let k = asc-right t.end n (ends_of ts) (ends_of ps) out s.1 in
          let none_left : inside n ps ≡ [] = behind n k.0 ps k.1 k.2 in
          rw (inside-drop n t ts out, behind n t.end ts out (asc-left t.end (ends_of ts) (ends_of ps) s.1), none_left)
          (in_entry t m (omega (arith, (entry-goes f text at t m).1)) refl)

      go : (x : Step Entry) → entry_at true f text at ≡ x
          → ((q : ℕ) → records_at true f text q ≡ record { entries = ts; pairs = ps } → Asc q (ends_of ts ++ ends_of ps) → q ≤ n → n < last_of q (ends_of ts ++ ends_of ps)
          → CutIn (last_of q (ends_of (inside n ts) ++ ends_of (inside n ps))) (inside n ps))
          → CutIn (last_of at (ends_of (inside n (t ∷ ts)) ++ ends_of (inside n ps))) (inside n ps)
      go stops m ih =
          let k : [] ≡ t ∷ ts = ap (λ (r : Records). r.entries) (is stops m) in
          let z : ◌≡◌ {A = ℕ} 0 1 = cc in
          let y : ⊥ = omega arith in
          absurd y
      go (last x) m ih = absurd (entry-no-last f text at x m)
      go (goes x) m ih =
          let k : x ∷ (records_at true f text (next_line text at)).entries ≡ t ∷ ts = ap (λ (r : Records). r.entries) (is (goes x) m) in
          let j : (records_at true f text (next_line text at)).pairs ≡ ps = ap (λ (r : Records). r.pairs) (is (goes x) m) in
          let same : x ≡ t = cc in
          let rest : (records_at true f text (next_line text at)).entries ≡ ts = cc in
          let m' : entry_at true f text at ≡ goes t = m ∙ ap goes same in
          let all : records_at true f text (next_line text at) ≡ record { entries = ts; pairs = ps } = rw (← rest, ← j) in
          which (leb t.end n) refl m' (ap (records_at true f text) (entry-goes f text at t m').1 ∙ all) ih

-- the theorem
module _ (text : List ℕ) (p : Parsed) (e : parsed true text ≡ fine p) (n : ℕ) (m : n ≤ length text) (l : p.head ≤ n) (before : n < stop p) (a : AllPlaced p.records.pairs) where
  the-cut-is-in : CutIn p.form text n (stop (cut_parsed n p)) (inside n p.records.pairs)
  unfolding opened records_at lines_of stop cut_parsed cut_records ends
  the-cut-is-in =
      let o = opens text p e in
      go (opened o.h o.e text) o.same refl
      (asc-records o.h.form (o.h.next + suc o.e) (lines (drop (o.h.next + suc o.e) text)))
    where
      go : (x : Parsed) → x ≡ p → records_at true x.form text x.head ≡ x.records → Asc x.head (ends_of x.records.entries ++ ends_of x.records.pairs)
          → CutIn p.form text n (last_of p.head (ends_of (inside n p.records.entries) ++ ends_of (inside n p.records.pairs))) (inside n p.records.pairs)
      go x same r s =
          let r' : records_at true p.form text p.head ≡ p.records = subst (λ (y : Parsed). records_at true y.form text y.head ≡ y.records) same r in
          let s' : Asc p.head (ends_of p.records.entries ++ ends_of p.records.pairs) = subst (λ (y : Parsed). Asc y.head (ends_of y.records.entries ++ ends_of y.records.pairs)) same s in
          records-where p.form text n p.records.entries p.records.pairs p.head r' a s' l before

  mildly : (q : ℕ) (ps : List (Taken Pair)) → q < n → CutIn p.form text n q ps → Mild (halt_at p.form (any ps) (take n text) q).reason
  mildly q ps k (in_entry t x y z) = rw z (a-cut-inside-an-entry p.form text q n t m x k y)
  mildly q ps k (in_pair t w x y) = a-cut-inside-a-pair p.form text q w.content w.relocation t w.is-placed (omega arith) x n (any ps) m k y

  pub a-cut-is-told-with-1-or-4 : ToldMildly (take n text)
  unfolding cut_parsed cut_records
  a-cut-is-told-with-1-or-4 h q =
      let same = cut-parsed text p e n l in
      let k = what-is-told (take n text) (cut_parsed n p) same h q in
      let left = bytes_left (take n text) (cut_parsed n p) same k.0 in
      subst (λ (x : Halt). Mild x.reason) k.1 (mildly (stop (cut_parsed n p)) (inside n p.records.pairs) (omega (arith, left, length-take-le n text m)) the-cut-is-in)
