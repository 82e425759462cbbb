-- What the proofs of the walk over a work line share: a law for each return, and the loop's invariant.
-- Assumes nothing.
use Prim.Native.Nat.{ℕ, zero, suc, ◌+◌, ◌-◌, ◌≤◌, ◌<◌}
use mathlib.Core.Path.{◌≡◌, refl, sym, ap, ◌∙◌}
use mathlib.Core.Bool.{true, false}
use mathlib.Core.List.{List}
use native.Mathlib.Numerals.{add-one}
use native.Mathlib.Omega.{arith}
use mir.Val.{Fits}
use mir.Syntax.{w32, w64}
use lib.Dec.{eqb}
use lib.ListN.{length, get_or, set}
use borrow.Author.Rules.{rules}
use borrow.Author.Tests.{lt-ltb, le-ltb, eq-eqb, ne_eqb}
use Rattle.format.specs.Lists.{pick}
use Rattle.laws.proofs.Areas.{one_at_most}
use Rattle.sites.specs.declared.Site.{Site}
use Rattle.sites.specs.Site.{Ready}
use Rattle.mark_pair.specs.Marks.{mark_walk, EntryMarks, EntriesMark}

-- `mark_entry`
module _ (wk map : List ℕ) (start p : ℕ) {e i k : ℕ} (ei : i ≡ e) (ek : k ≡ get_or wk i 0) where
  pub entry_kept : k ≡ 1 → {q : ℕ} → q ≡ p → {new : List ℕ} → new ≡ set map (start + q) 1 → EntryMarks (get_or wk e 0) (start + p) map 1 new
  entry_kept h eq en = let b : eqb (get_or wk e 0) 1 ≡ true = rw (← ei, ← ek) (eq-eqb k 1 h) in record { grows-by = rw b; stored = rw (b, ← eq) en }

  pub entry-dropped : (k ≡ 1 → ⊥) → EntryMarks (get_or wk e 0) (start + p) map 0 map
  entry-dropped h = let b : eqb (get_or wk e 0) 1 ≡ false = rw (← ei, ← ek) (ne_eqb k 1 h) in record { grows-by = rw b; stored = rw b }

pub at-fits : (start p : ℕ) {q : ℕ} → start + p < 65536 → q ≡ p → Fits w64 (start + q)
at-fits start p h e = record { fits = omega arith }

pub ruleset entering = (rules, entry_kept, entry-dropped, at-fits)

-- the entries up to e are passed, and the position is p
pub record Marking (s : Site) (wk old : List ℕ) (n : ℕ) (map : List ℕ) (e p : ℕ) : Type 0 where
  pub whole : n ≡ s.line.width + s.line.bytes
  pub inside : e ≤ n
  pub rest : mark_walk s.start s.size wk (s.line.width + s.line.bytes) 0 s.line.address old ≡ mark_walk s.start s.size wk (n - e) e p map
  pub ready : Ready s
  pub long : length map ≡ length old

pub mark-start : (s : Site) (wk old : List ℕ) → Ready s → {n : ℕ} → n ≡ s.line.width + s.line.bytes → Marking s wk old n old 0 s.line.address
mark-start s wk old r {n} e = let z : n - 0 ≡ s.line.width + s.line.bytes = omega arith in record { whole = e; inside = omega arith; rest = rw z; ready = r; long = refl }

walk-out : (start size : ℕ) (wk : List ℕ) (m e p : ℕ) (map : List ℕ) → size ≤ p → mark_walk start size wk m e p map ≡ map
unfolding mark_walk
walk-out start size wk zero e p map h = refl
walk-out start size wk (suc m) e p map h = rw (le-ltb p size h)

module _ {s : Site} {wk old : List ℕ} {n : ℕ} {map : List ℕ} {e p : ℕ} (w : Marking s wk old n map e p) where
  pub mark-end : n ≤ e → EntriesMark s wk old map
  unfolding mark_walk
  mark-end h = let z : n - e ≡ 0 = omega arith in record { says = sym (w.rest ∙ rw z) }

  pub mark-out : s.size ≤ p → EntriesMark s wk old map
  mark-out l = record { says = sym (w.rest ∙ walk-out s.start s.size wk (n - e) e p map l) }

  pub mark-narrow : e < n → Fits w32 (e + 1)
  mark-narrow h = record { fits = omega (arith, w.whole, w.ready.line.address, w.ready.line.content) }

  module _ (l : p < s.size) where
    pub mark-room : s.start + p < 65536
    mark-room = omega (arith, w.ready.inside)

    module _ {y : ℕ} {new : List ℕ} (o : EntryMarks (get_or wk e 0) (s.start + p) map y new) where
      pub mark-grows : Fits w32 (p + y)
      mark-grows = record { fits = omega (arith, w.ready.inside, o.grows-by, one_at_most (eqb (get_or wk e 0) 1)) }

      pub mark-more : e < n → length new ≡ length map → Marking s wk old n new (e + 1) (p + y)
      unfolding mark_walk
      mark-more h k = let z : n - e ≡ suc (n - suc e) = omega arith in record {
        whole = w.whole;
        inside = omega arith;
        rest = w.rest ∙ (ap (λ (k : ℕ). mark_walk s.start s.size wk k e p map) z ∙ rw (lt-ltb p s.size l, add-one, o.grows-by, o.stored));
        ready = w.ready;
        long = k ∙ w.long;
      }

pub ruleset marking = (rules, mark-start, mark-end, mark-out, mark-narrow, mark-room, mark-grows, mark-more)
