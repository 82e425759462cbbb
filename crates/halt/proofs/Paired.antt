-- Whether a pair was taken, as the code knows it: the reading's stop lies behind where group one ended. (The count of lines does not tell: it leaves
-- out the T and P pairs.)
-- Assumes nothing.
use Prim.Native.Nat.{ℕ, ◌+◌, ◌-◌, ◌≤◌, ◌<◌}
use mathlib.Core.Path.{◌≡◌, refl, sym, ap, subst, ◌∙◌}
use mathlib.Core.Bool.{Bool, true, false}
use mathlib.Core.List.{List, [], ◌∷◌, ◌++◌}
use native.Mathlib.Omega.{arith}
use lib.Dec.{eqb, ltb}
use borrow.Author.Tests.{eqb-false, le-ltb, lt-ltb}
use Rattle.format.specs.Lists.{pick}
use Rattle.format.specs.Number.{past}
use Rattle.format.specs.Lines.{lines_of}
use Rattle.format.specs.Header.{Form}
use Rattle.format.specs.Entries.{Entry}
use Rattle.format.specs.Pairs.{Pair, pair_lines}
use Rattle.format.specs.Outcome.{fine}
use Rattle.format.specs.Records.{Parsed, Records, Step, Taken, both, consed, ends, goes, last, last_of, parsed, step_of, stop, stops}
use Rattle.laws.specs.Places.{end_at, entry_at, line_at, line_end, next_line, pair_at, pairs_at, records_at}
use Rattle.laws.proofs.Places.{pairs-at, records-at}
use Rattle.cut.proofs.Records.{ends_of}
use Rattle.cut.proofs.Opened.{opened, opens}
use Rattle.cut.proofs.Steps.{entry-goes, entry-no-last, pair_end, pair-no-last}
use Rattle.halt.specs.Halt.{any}

module _ (f : Form) (text : List ℕ) where
  -- group two begins where group one ended
  pairs-begin : (es : List (Taken Entry)) (ps : List (Taken Pair)) (at : ℕ) → records_at true f text at ≡ record { entries = es; pairs = ps } → pairs_at true f text (last_of at (ends_of es)) ≡ ps
  pairs-begin [] ps at e = go (entry_at true f text at) refl
    where
      is : (x : Step Entry) → entry_at true f text at ≡ x → both x (records_at true f text (next_line text at)) (pairs_at true f text at) ≡ record { entries = []; pairs = ps }
      is x m = rw (← m) (sym (records-at true f text at) ∙ e)

      go : (x : Step Entry) → entry_at true f text at ≡ x → pairs_at true f text at ≡ ps
      go stops m = ap (λ (r : Records). r.pairs) (is stops m)
      go (last x) m = absurd (entry-no-last f text at x m)
      go (goes x) m =
          let k : x ∷ (records_at true f text (next_line text at)).entries ≡ [] = ap (λ (r : Records). r.entries) (is (goes x) m) in
          let z : ◌≡◌ {A = ℕ} 0 1 = cc in
          let y : ⊥ = omega arith in
          absurd y
  pairs-begin (t ∷ ts) ps at e = go (entry_at true f text at) refl (λ q x. pairs-begin ts ps q x)
    where
      is : (x : Step Entry) → entry_at true f text at ≡ x → both x (records_at true f text (next_line text at)) (pairs_at true f text at) ≡ record { entries = t ∷ ts; pairs = ps }
      is x m = rw (← m) (sym (records-at true f text at) ∙ e)

      go : (x : Step Entry) → entry_at true f text at ≡ x → ((q : ℕ) → records_at true f text q ≡ record { entries = ts; pairs = ps } → pairs_at true f text (last_of q (ends_of ts)) ≡ ps)
          → pairs_at true f text (last_of t.end (ends_of ts)) ≡ ps
      go stops m ih =
          let k : [] ≡ t ∷ ts = ap (λ (r : Records). r.entries) (is stops m) in
          let z : ◌≡◌ {A = ℕ} 0 1 = cc in
          let y : ⊥ = omega arith in
          absurd y
      go (last x) m ih = absurd (entry-no-last f text at x m)
      go (goes x) m ih =
          let k : x ∷ (records_at true f text (next_line text at)).entries ≡ t ∷ ts = ap (λ (r : Records). r.entries) (is (goes x) m) in
          let j : (records_at true f text (next_line text at)).pairs ≡ ps = ap (λ (r : Records). r.pairs) (is (goes x) m) in
          let same : x ≡ t = cc in
          let rest : (records_at true f text (next_line text at)).entries ≡ ts = cc in
          let m' : entry_at true f text at ≡ goes t = m ∙ ap goes same in
          let all : records_at true f text (next_line text at) ≡ record { entries = ts; pairs = ps } = rw (← rest, ← j) in
          ih t.end (ap (records_at true f text) (entry-goes f text at t m').1 ∙ all)

  -- a pair that is taken has bytes
  lined : (b : Bool) (x : Step Pair) (t : Taken Pair) → pick b stops x ≡ goes t → b ≡ false
  lined true x t h = let z : ◌≡◌ {A = ℕ} 0 1 = cc in let y : ⊥ = omega arith in absurd y
  lined false x t h = refl

  has_end : (q : ℕ) (t : Taken Pair) → pair_at true f text q ≡ goes t → end_at text q ≡ 0 → ⊥
  unfolding pair_at
  has_end q t e =
      let r : ℕ = next_line text q in
      eqb-false (end_at text q) 0
      (lined (eqb (end_at text q) 0) (step_of true q (line_end text r - q) (end_at text r) (next_line text r) (pair_lines f (line_at text q) (line_at text r))) t e)

  next-from : (q : ℕ) → (q ≤ line_end text q) × (line_end text q + end_at text q ≡ next_line text q)
  unfolding next_line line_end past
  next-from q = (omega arith, refl)

  pair-on : (q : ℕ) (t : Taken Pair) → pair_at true f text q ≡ goes t → q < t.end
  pair-on q t e =
      let a = next-from q in
      let b = next-from (next_line text q) in
      let ne : end_at text q ≡ 0 → ⊥ = has_end q t e in
      omega (arith, ne, a.0, a.1, b.0, b.1, pair_end f text q t e)

  -- so the stop lies behind
  later-stop : (ps : List (Taken Pair)) (q : ℕ) → pairs_at true f text q ≡ ps → (q ≤ last_of q (ends_of ps)) × (any ps ≡ ltb q (last_of q (ends_of ps)))
  later-stop [] q e = (omega arith, sym (le-ltb q q (omega arith)))
  later-stop (t ∷ ts) q e = go (pair_at true f text q) refl (λ r x. (later-stop ts r x).0)
    where
      is : (x : Step Pair) → pair_at true f text q ≡ x → t ∷ ts ≡ consed x (pairs_at true f text (next_line text (next_line text q)))
      is x m = sym e ∙ pairs-at true f text q ∙ rw m

      go : (x : Step Pair) → pair_at true f text q ≡ x → ((r : ℕ) → pairs_at true f text r ≡ ts → r ≤ last_of r (ends_of ts))
          → (q ≤ last_of t.end (ends_of ts)) × (true ≡ ltb q (last_of t.end (ends_of ts)))
      go stops m ih = let k = is stops m in let z : ◌≡◌ {A = ℕ} 0 1 = cc in let y : ⊥ = omega arith in absurd y
      go (last x) m ih = absurd (pair-no-last f text q x m)
      go (goes x) m ih =
          let k = is (goes x) m in
          let same : x ≡ t = cc in
          let rest : pairs_at true f text (next_line text (next_line text q)) ≡ ts = cc in
          let m' : pair_at true f text q ≡ goes t = m ∙ ap goes same in
          let low = ih t.end (ap (pairs_at true f text) (pair_end f text q t m') ∙ rest) in
          let on = pair-on q t m' in
          (omega arith, sym (lt-ltb q (last_of t.end (ends_of ts)) (omega arith)))

last-append : (a : ℕ) (xs ys : List ℕ) → last_of a (xs ++ ys) ≡ last_of (last_of a xs) ys
last-append a [] ys = refl
last-append a (x ∷ xs) ys = last-append x xs ys

-- whether a pair was taken: the stop lies behind the end of group one
pub paired-is-a-later-stop : (text : List ℕ) (p : Parsed) → parsed true text ≡ fine p → any p.records.pairs ≡ ltb (last_of p.head (ends_of p.records.entries)) (stop p)
unfolding opened records_at lines_of stop ends
paired-is-a-later-stop text p e =
    let o = opens text p e in
    subst (λ (x : Parsed). any x.records.pairs ≡ ltb (last_of x.head (ends_of x.records.entries)) (last_of x.head (ends_of x.records.entries ++ ends_of x.records.pairs))) o.same
    (go (opened o.h o.e text) refl)
  where
    go : (x : Parsed) → records_at true x.form text x.head ≡ x.records
        → any x.records.pairs ≡ ltb (last_of x.head (ends_of x.records.entries)) (last_of x.head (ends_of x.records.entries ++ ends_of x.records.pairs))
    go x r =
        let begin = pairs-begin x.form text x.records.entries x.records.pairs x.head r in
        (later-stop x.form text x.records.pairs (last_of x.head (ends_of x.records.entries)) begin).1
        ∙ ap (ltb (last_of x.head (ends_of x.records.entries))) (sym (last-append x.head (ends_of x.records.entries) (ends_of x.records.pairs)))
