-- What the counts are worth: a cut among the pairs changes nothing and is not seen; a cut behind the line that tells, which drops an A or S line
-- of a module whose counts are equal, is seen.
-- Assumes nothing.
use Prim.Native.Nat.{ℕ, suc, ◌+◌, ◌≤◌}
use mathlib.Core.Path.{◌≡◌, refl, sym, ap, subst, ◌∙◌}
use mathlib.Core.Bool.{Bool, true, false, ◌&&◌}
use mathlib.Core.List.{List, [], ◌∷◌, ◌++◌}
use mathlib.Core.Option.{Option, none, some}
use native.Mathlib.Omega.{arith}
use lib.ListN.{drop, take}
use lib.Dec.{eqb, leb}
use borrow.Author.Tests.{leb-true, ne_eqb}
use Rattle.format.specs.Lists.{pick}
use Rattle.format.specs.Got.{is}
use Rattle.format.specs.Header.{Form}
use Rattle.format.specs.Entries.{Entry}
use Rattle.format.specs.Lines.{lines, lines_of}
use Rattle.format.specs.Outcome.{fine}
use Rattle.format.specs.Records.{Parsed, Records, Step, Taken, both, ends, goes, last, parsed, records, stops}
use Rattle.laws.specs.Places.{entry_at, next_line, records_at}
use Rattle.laws.proofs.Places.{records-at}
use Rattle.cut.specs.Cut.{cut_records, inside}
use Rattle.cut.proofs.Records.{Asc, asc-left, asc-records, ends_of}
use Rattle.cut.proofs.Build.{prefix}
use Rattle.cut.proofs.Verdict.{AllLe}
use Rattle.cut.proofs.Opened.{cut_parsed, opened, opens}
use Rattle.counts.specs.Counts.{Two, compared, counted, counts_in, equal, first_told, not_equal, or_later, tells_at, told_counts}
use Rattle.cut.proofs.LineCut.{line-cut}
use Rattle.cut.proofs.Steps.{entry-goes, entry-no-last}
use Rattle.cut.proofs.ParsedCut.{cut-parsed, inside-all}
use Rattle.counts.proofs.Counts.{equal-then}

-- each record of group one ends where its line ends
abbrev pub AllNext : List ℕ → List (Taken Entry) → Type 0
AllNext text [] = Unit {0}
AllNext text (t ∷ ts) = (t.end ≡ next_line text t.place) × AllNext text ts

module _ (f : Form) (text : List ℕ) where
  entries_next : (es : List (Taken Entry)) (p : ℕ) → (records_at true f text p).entries ≡ es → AllNext text es
  entries_next [] p h = tt
  entries_next (t ∷ ts) p h = go (entry_at true f text p) refl (λ q k. entries_next ts q k)
    where
      is : (s : Step Entry) → entry_at true f text p ≡ s → t ∷ ts ≡ (both s (records_at true f text (next_line text p)) (Rattle.laws.specs.Places.pairs_at true f text p)).entries
      is s e = sym h ∙ ap (λ (r : Records). r.entries) (records-at true f text p) ∙ rw e

      go : (s : Step Entry) → entry_at true f text p ≡ s → ((q : ℕ) → (records_at true f text q).entries ≡ ts → AllNext text ts) → AllNext text (t ∷ ts)
      go stops e ih = let k = is stops e in let z : ◌≡◌ {A = ℕ} 0 1 = cc in let y : ⊥ = omega arith in absurd y
      go (last x) e ih = absurd (entry-no-last f text p x e)
      go (goes x) e ih =
          let k = is (goes x) e in
          let same : t ≡ x = cc in
          let rest : (records_at true f text (next_line text p)).entries ≡ ts = cc in
          let g = entry-goes f text p x e in
          let place : t.place ≡ p = ap (λ (y : Taken Entry). y.place) same ∙ g.0 in
          (ap (λ (y : Taken Entry). y.end) same ∙ g.1 ∙ sym (ap (next_line text) place), ih (next_line text p) rest)

-- the records inside a cut tell what they tell in the whole
tells-cut : (radix : ℕ) (text : List ℕ) (p n : ℕ) → next_line text p ≤ n → tells_at radix (take n text) p ≡ tells_at radix text p
unfolding tells_at
tells-cut radix text p n h = rw (line-cut text p n h)

told-inside : (radix : ℕ) (text : List ℕ) (n : ℕ) (es : List (Taken Entry)) → AllNext text es → first_told radix (take n text) (inside n es) ≡ first_told radix text (inside n es)
unfolding first_told inside
told-inside radix text n [] h = refl
told-inside radix text n (t ∷ ts) h = go (leb t.end n) refl (told-inside radix text n ts h.1)
  where
    go : (b : Bool) → leb t.end n ≡ b → first_told radix (take n text) (inside n ts) ≡ first_told radix text (inside n ts)
        → first_told radix (take n text) (pick b (t ∷ inside n ts) (inside n ts)) ≡ first_told radix text (pick b (t ∷ inside n ts) (inside n ts))
    go true e ih = rw (tells-cut radix text t.place n (omega (arith, leb-true t.end n e, h.0)), ih)
    go false e ih = ih

-- what the first records tell, the whole tells
first_of : (radix : ℕ) (text : List ℕ) (xs ys : List (Taken Entry)) (c : Two) → first_told radix text xs ≡ some c → first_told radix text (xs ++ ys) ≡ some c
unfolding first_told
first_of radix text [] ys c h = let z : ◌≡◌ {A = ℕ} 0 1 = cc in let y : ⊥ = omega arith in absurd y
first_of radix text (x ∷ xs) ys c h = go (tells_at radix text x.place) (first_of radix text xs ys c) h
  where
    go : (o : Option Two) → (first_told radix text xs ≡ some c → first_told radix text (xs ++ ys) ≡ some c) → or_later o (first_told radix text xs) ≡ some c → or_later o (first_told radix text (xs ++ ys)) ≡ some c
    go none f q = f q
    go (some d) f q = q

module _ (text : List ℕ) (p : Parsed) (e : parsed true text ≡ fine p) (n : ℕ) (l : p.head ≤ n) where
  all-next : AllNext text p.records.entries
  unfolding opened records_at lines_of
  all-next =
      let o = opens text p e in
      subst (λ (x : Parsed). AllNext text x.records.entries) o.same (entries_next o.h.form text (opened o.h o.e text).records.entries (o.h.next + suc o.e) refl)

  ascending : Asc p.head (ends_of p.records.entries)
  unfolding opened ends
  ascending =
      let o = opens text p e in
      subst (λ (x : Parsed). Asc x.head (ends_of x.records.entries)) o.same
      (asc-left (o.h.next + suc o.e) (ends_of (opened o.h o.e text).records.entries) (ends_of (opened o.h o.e text).records.pairs)
      (asc-records o.h.form (o.h.next + suc o.e) (lines (drop (o.h.next + suc o.e) text))))

  -- the counts of a cut: of the records inside it
  pub the-counts-of-a-cut : told_counts (take n text) ≡ compared (first_told p.form.radix text (inside n p.records.entries)) (counted (inside n p.records.entries))
  unfolding told_counts counts_in cut_parsed cut_records
  the-counts-of-a-cut = rw (cut-parsed text p e n l, told-inside p.form.radix text n p.records.entries all-next)

  -- a cut that keeps every record of group one, as one among the pairs, is not seen
  pub a-cut-among-the-pairs-is-not-seen : AllLe n (ends_of p.records.entries) → told_counts (take n text) ≡ told_counts text
  unfolding told_counts counts_in
  a-cut-among-the-pairs-is-not-seen h = the-counts-of-a-cut ∙ rw (inside-all n p.records.entries h, e)

  -- what is told inside the cut is what the whole tells
  pub told-inside-is-told : (c : Two) → first_told p.form.radix text (inside n p.records.entries) ≡ some c → first_told p.form.radix text p.records.entries ≡ some c
  told-inside-is-told c h =
      let k = prefix n p.head p.records.entries ascending in
      ap (first_told p.form.radix text) (sym k.whole) ∙ first_of p.form.radix text (inside n p.records.entries) k.rest c h

  -- a cut behind the line that tells, that loses an area or a symbol of a module with equal counts, is seen
  pub a-cut-that-loses-areas-is-seen : (c : Two) → told_counts text ≡ equal → first_told p.form.radix text (inside n p.records.entries) ≡ some c
      → ((counted (inside n p.records.entries)).areas ≡ (counted p.records.entries).areas → ⊥) → told_counts (take n text) ≡ not_equal
  unfolding told_counts counts_in
  a-cut-that-loses-areas-is-seen c q h lost =
      let whole : compared (some c) (counted p.records.entries) ≡ equal = rw (e, told-inside-is-told c h) at q in
      let same = equal-then c (counted p.records.entries) whole in
      let ne : c.areas ≡ (counted (inside n p.records.entries)).areas → ⊥ = λ x. lost (sym x ∙ same.0) in
      the-counts-of-a-cut ∙ rw (h, ne_eqb c.areas (counted (inside n p.records.entries)).areas ne)

  pub a-cut-that-loses-symbols-is-seen : (c : Two) → told_counts text ≡ equal → first_told p.form.radix text (inside n p.records.entries) ≡ some c
      → ((counted (inside n p.records.entries)).symbols ≡ (counted p.records.entries).symbols → ⊥) → told_counts (take n text) ≡ not_equal
  unfolding told_counts counts_in
  a-cut-that-loses-symbols-is-seen c q h lost =
      let whole : compared (some c) (counted p.records.entries) ≡ equal = rw (e, told-inside-is-told c h) at q in
      let same = equal-then c (counted p.records.entries) whole in
      let ne : c.symbols ≡ (counted (inside n p.records.entries)).symbols → ⊥ = λ x. lost (sym x ∙ same.1) in
      the-counts-of-a-cut ∙ rw (h, ne_eqb c.symbols (counted (inside n p.records.entries)).symbols ne) (neither (eqb c.areas (counted (inside n p.records.entries)).areas))
    where
      neither : (t : Bool) → pick (t && false) equal not_equal ≡ not_equal
      neither true = refl
      neither false = refl
