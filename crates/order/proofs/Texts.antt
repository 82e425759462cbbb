-- Two texts that differ only in the order of two neighbouring pairs with no common position are read alike.
-- Assumes nothing.
use Prim.Native.Nat.{ℕ, suc, ◌+◌}
use mathlib.Core.Path.{◌≡◌, refl, sym, ap, subst, ◌∙◌}
use mathlib.Core.Bool.{Bool}
use mathlib.Core.List.{List, [], ◌∷◌, ◌++◌}
use native.Mathlib.Nat.{add-zero}
use native.Mathlib.Numerals.{add-one}
use native.Mathlib.Omega.{arith}
use lib.ListN.{length}
use lib.Dec.{leb}
use Rattle.format.specs.Header.{Form}
use Rattle.format.specs.Pairs.{Pair, skipped, placed}
use Rattle.format.specs.Outcome.{Outcome, fine, fold}
use Rattle.format.specs.Records.{Taken, Parsed, parsed}
use Rattle.format.specs.Tables.{tables, fits, fits_body, counted, room}
use Rattle.format.specs.Placing.{placing}
use Rattle.format.specs.Reading.{Lent, Read, Built, allowed, build, headed, read, read_of}
use Rattle.laws.proofs.Outcomes.{chain, follow, passed, fold-prefix}
use Rattle.order.specs.Order.{bodies, Apart}
use Rattle.order.specs.Texts.{OtherText}
use Rattle.order.proofs.Lists.{fold-behind}
use Rattle.laws.proofs.WasRead.{what-was-read}
use Rattle.laws.proofs.Headed.{headed-alike}
use Rattle.order.proofs.Order.{neighbours-in-either-order}

-- ------------------------------------------------------------------ how many pairs there are

-- a pair that fits adds so many, wherever it stands
record Counts (b : Pair) (k m : ℕ) : Type 0 where
  one : ℕ
  is : m ≡ k + one
  goes : (j q : ℕ) → fits_body j q b ≡ fine (j + one)

counts-body : (b : Pair) (k p m : ℕ) → fits_body k p b ≡ fine m → Counts b k m
counts-body skipped k p m h = record { one = 0; is = let same : k ≡ m = cc in omega arith; goes = λ j q. ap {B = Outcome ℕ} fine (sym (add-zero j)) }
counts-body (placed c r) k p m h =
    let x = passed (leb (length c.bytes) 256) _ 7 p m h in
    let y = passed (leb (length r.fragments) 64) _ 8 p m x.1 in
    record {
      one = 1;
      is = let same : suc k ≡ m = cc y.1 in omega arith;
      goes = λ j q. rw (x.0, y.0) (ap {B = Outcome ℕ} fine (sym (add-one j)));
    }

record CountsAll (ps : List (Taken Pair)) (k m : ℕ) : Type 0 where
  all : ℕ
  is : m ≡ k + all
  goes : (j : ℕ) (qs : List (Taken Pair)) → bodies ps ≡ bodies qs → fold fits j qs ≡ fine (j + all)

counts_all : (ps : List (Taken Pair)) (k m : ℕ) → fold fits k ps ≡ fine m → CountsAll ps k m
unfolding fold fits
counts_all [] k m h = record { all = 0; is = let same : k ≡ m = cc in omega arith; goes = go }
  where
    go : (j : ℕ) (qs : List (Taken Pair)) → [] ≡ bodies qs → fold fits j qs ≡ fine (j + 0)
    go j [] e = ap {B = Outcome ℕ} fine (sym (add-zero j))
    go j (q ∷ qs) e = let z : ◌≡◌ {A = ℕ} 0 1 = cc in let y : ⊥ = omega arith in absurd y
counts_all (p ∷ ps) k m h =
    let c = chain (fits k p) (λ v. fold fits v ps) m h in
    let x = counts-body p.body k p.place c.value c.first in
    let y = counts_all ps c.value m c.second in
    record { all = x.one + y.all; is = omega (arith, x.is, y.is); goes = go x y }
  where
    go : {v : ℕ} (x : Counts p.body k v) (y : CountsAll ps v m) (j : ℕ) (qs : List (Taken Pair)) → p.body ∷ bodies ps ≡ bodies qs → fold fits j qs ≡ fine (j + (x.one + y.all))
    go x y j [] e = let z : ◌≡◌ {A = ℕ} 0 1 = cc in let f : ⊥ = omega arith in absurd f
    go x y j (q ∷ qs) e =
        let here : p.body ≡ q.body = cc in
        let more : bodies ps ≡ bodies qs = cc in
        follow (fits j q) (λ u. fold fits u qs) (subst (λ (b : Pair). fits_body j q.place b ≡ fine (j + x.one)) here (x.goes j q.place))
        (y.goes (j + x.one) qs more ∙ ap {B = Outcome ℕ} fine (omega arith))

counted-exchanged : (before behind qs : List (Taken Pair)) (a b : Taken Pair) (n : ℕ) → counted (before ++ a ∷ b ∷ behind) ≡ fine n → bodies (before ++ b ∷ a ∷ behind) ≡ bodies qs → counted qs ≡ fine n
unfolding counted fold fits
counted-exchanged before behind qs a b n h e =
    let k = fold-prefix fits before (a ∷ b ∷ behind) 0 n h in
    let one = chain (fits k.value a) _ n k.second in
    let two = chain (fits one.value b) _ n one.second in
    let x = counts-body a.body k.value a.place one.value one.first in
    let y = counts-body b.body one.value b.place two.value two.first in
    let z = counts_all behind two.value n two.second in
    let v = k.value in
    let there : fold fits 0 (before ++ b ∷ a ∷ behind) ≡ fine n =
    fold-behind fits before (b ∷ a ∷ behind) 0 v (fine n) k.first
    (follow (fits v b) _ (y.goes v b.place)
    (follow (fits (v + y.one) a) _ (x.goes (v + y.one) a.place)
    (z.goes (v + y.one + x.one) behind refl ∙ ap {B = Outcome ℕ} fine (omega (arith, x.is, y.is, z.is))))) in
    let w = counts_all (before ++ b ∷ a ∷ behind) 0 n there in
    w.goes 0 qs e ∙ ap {B = Outcome ℕ} fine (sym w.is)

-- ------------------------------------------------------------------ the texts

module _ (ended : Bool) (l : Lent) (text text₂ : List ℕ) (w : Read) (p : Parsed) (k : ℕ) (before behind : List (Taken Pair)) (a b : Taken Pair) where
  -- the first is read, and has a before b; the second has the same form and the same entries, and the same pairs but b before a
  pub texts-in-either-order : read ended l text ≡ fine w → w.parsed.records.pairs ≡ before ++ a ∷ b ∷ behind
      → allowed l text₂ ≡ fine k → parsed ended text₂ ≡ fine p
      → w.parsed.form ≡ p.form → w.parsed.records.entries ≡ p.records.entries → bodies (before ++ b ∷ a ∷ behind) ≡ bodies p.records.pairs
      → Apart w.parsed.form w.built.tables a b → OtherText ended l text₂ w before behind a b
  unfolding read read_of build
  texts-in-either-order was pairs may is-parsed same-form same_entries exchanged d =
      let o = (what-was-read ended l text w was).builds in
      let fm = w.parsed.form in
      let t = w.built.tables in
      let x = neighbours-in-either-order fm t before behind a b w.built.state d (rw pairs at o.placed) in
      let new : Built = record { tables = t; lines = w.built.lines; size = w.built.size; state = x.other } in
      let built : build p.form p.records ≡ fine new =
      follow (tables p.records.entries) _ (rw same_entries at o.entered)
      (follow (counted p.records.pairs) _ (counted-exchanged before behind p.records.pairs a b w.built.lines (rw pairs at o.counts) exchanged)
      (follow (room t) _ o.roomy
      (follow (placing p.form t p.records.pairs) _ (subst (λ (f : Form). placing f t p.records.pairs ≡ fine x.other) same-form (x.accepted p.records.pairs exchanged)) refl))) in
      record {
        other = record { parsed = p; built = new };
        accepted = follow (allowed l text₂) _ may (follow (headed ended text₂) read_of (headed-alike ended text text₂ w.parsed p (what-was-read ended l text w was).heads is-parsed same-form) (follow (build p.form p.records) _ built refl));
        same_tables = refl;
        same_lines = refl;
        same_size = refl;
        same = x.same;
        fixups = x.fixups;
        other-fixups = x.other-fixups;
      }
