-- What the reading of a cut text holds: nothing before the header line's end; behind it the whole's records that lie inside the cut, and all of them
-- from the whole's own stop on.
-- Assumes nothing.
use Prim.Native.Nat.{ℕ, suc, ◌+◌, ◌≤◌, ◌<◌}
use mathlib.Core.Path.{◌≡◌, refl, ap, subst, ◌∙◌}
use mathlib.Core.Bool.{true}
use mathlib.Core.List.{List, [], ◌∷◌, ◌++◌}
use native.Mathlib.Omega.{arith}
use lib.ListN.{drop, take}
use Rattle.format.specs.Lines.{lines}
use Rattle.format.specs.Outcome.{Outcome, fine, refused}
use Rattle.format.specs.Records.{Parsed, Taken, ends, last_of, parsed, stop}
use Rattle.cut.specs.Cut.{cut_records, inside}
use Rattle.cut.proofs.Records.{Asc, asc-records, ends_of, inside-keep}
use Rattle.cut.proofs.Verdict.{AllLe}
use Rattle.cut.proofs.Header.{head_in, head-out}
use Rattle.cut.proofs.Opened.{cut_parsed, lost-parsed, opened, opened-cut, opens, parsed-at}

-- every record lies before the last end
asc-last : (a : ℕ) (xs : List ℕ) → Asc a xs → (a ≤ last_of a xs) × AllLe (last_of a xs) xs
unfolding AllLe
asc-last a [] r = (omega arith, tt)
asc-last a (x ∷ xs) r = let k = asc-last x xs r.1 in (omega (arith, k.0, r.0), (k.0, k.1))

all_more : (m n : ℕ) (xs : List ℕ) → m ≤ n → AllLe m xs → AllLe n xs
unfolding AllLe
all_more m n [] l h = tt
all_more m n (x ∷ xs) l h = (omega (arith, h.0), all_more m n xs l h.1)

all_split : (n : ℕ) (xs ys : List ℕ) → AllLe n (xs ++ ys) → AllLe n xs × AllLe n ys
unfolding AllLe
all_split n [] ys h = (tt, h)
all_split n (x ∷ xs) ys h = let k = all_split n xs ys h.1 in ((h.0, k.0), k.1)

pub inside-all : {A : Type 0} (n : ℕ) (ts : List (Taken A)) → AllLe n (ends_of ts) → inside n ts ≡ ts
unfolding inside AllLe
inside-all n [] h = refl
inside-all n (t ∷ ts) h = inside-keep n t ts h.0 ∙ ap (λ (x : List (Taken _)). t ∷ x) (inside-all n ts h.1)

module _ (text : List ℕ) (p : Parsed) (e : parsed true text ≡ fine p) (n : ℕ) where
  -- before the header line's end there is no header
  pub lost-cut : n < p.head → parsed true (take n text) ≡ refused 4 0
  unfolding opened
  lost-cut l =
      let o = opens text p e in
      let same : o.h.next + suc o.e ≡ p.head = ap (λ (x : Parsed). x.head) o.same in
      lost-parsed (take n text) (head-out text n o.e o.h o.is-head o.is-end (omega arith))

  -- behind it: the records inside the cut
  pub cut-parsed : p.head ≤ n → parsed true (take n text) ≡ fine (cut_parsed n p)
  unfolding opened
  cut-parsed l =
      let o = opens text p e in
      let same : o.h.next + suc o.e ≡ p.head = ap (λ (x : Parsed). x.head) o.same in
      let k = head_in text n o.e o.h (record { head = o.is-head; end = o.is-end }) (omega arith) in
      parsed-at o.h o.e (take n text) k.head k.end
      ∙ ap {B = Outcome Parsed} fine (opened-cut o.h o.e n text (omega arith) ∙ ap (cut_parsed n) o.same)

  -- the ends of the records ascend to the stop
  pub ends-to-stop : (p.head ≤ stop p) × AllLe (stop p) (ends p.records)
  unfolding opened stop
  ends-to-stop =
      let o = opens text p e in
      subst (λ (x : Parsed). (x.head ≤ stop x) × AllLe (stop x) (ends x.records)) o.same
      (asc-last (opened o.h o.e text).head (ends (opened o.h o.e text).records)
      (asc-records o.h.form (o.h.next + suc o.e) (lines (drop (o.h.next + suc o.e) text))))

  -- a cut at or behind the stop keeps every record
  pub a-late-cut-keeps-the-records : stop p ≤ n → cut_parsed n p ≡ p
  unfolding cut_parsed cut_records ends
  a-late-cut-keeps-the-records l =
      let k = all_split n (ends_of p.records.entries) (ends_of p.records.pairs) (all_more (stop p) n (ends p.records) l ends-to-stop.1) in
      rw (inside-all n p.records.entries k.0, inside-all n p.records.pairs k.1)
