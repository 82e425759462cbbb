-- What the proof of the walk for fixup rows shares: a law for each return, and the loop's invariant.
-- Assumes nothing.
use Prim.Native.Nat.{ℕ, zero, suc, ◌+◌, ◌-◌, ◌≤◌, ◌<◌}
use mathlib.Core.Path.{◌≡◌, refl, sym, ap, ◌∙◌}
use mathlib.Core.Bool.{Bool}
use mathlib.Core.List.{List}
use native.Mathlib.Numerals.{add-one}
use native.Mathlib.Omega.{arith}
use mir.Val.{Fits}
use mir.Syntax.{w32}
use lib.Dec.{eqb}
use lib.ListN.{length, get_or}
use borrow.Author.Rules.{rules}
use borrow.Author.Tests.{lt-ltb, le-ltb}
use Rattle.std.specs.Prelude.{Result, Ok, Err}
use Rattle.format.specs.Lists.{pick}
use Rattle.format.specs.Pairs.{Fragment}
use Rattle.format.specs.Outcome.{fine, and_then}
use Rattle.format.specs.Fixups.{Fixup}
use Rattle.format.specs.Fixups as defs
use Rattle.laws.specs.Rows.{fixups_in}
use Rattle.laws.proofs.Areas.{one_at_most}
use Rattle.sites.specs.declared.Site.{Site}
use Rattle.sites.specs.Columns.{fragments_in}
use Rattle.sites.specs.Site.{Ready}
use Rattle.fixups.specs.Next.{Clear}
use Rattle.fixups.specs.Walk.{site_of, fixups_walk, entry_at, line_at, told, Within, Made}
use Rattle.fixups.proofs.AddLaws.{same}
use Rattle.fixups.proofs.EntryLaws.{then-within}
use Rattle.fixups.proofs.NextLaws.{none_left}

-- the entries up to e are passed, the position is p, and from e up to t no fragment can give a fixup
pub record Walking (ms es xs areas symbols ns : List ℕ) (s : Site) (keeps : List ℕ) (n : ℕ) (rows left : List ℕ) (k e p t : ℕ) : Type 0 where
  pub whole : n ≡ s.line.width + s.line.bytes
  pub inside : e ≤ n
  pub rest : (place : ℕ) → line_at ms es xs areas symbols ns s keeps (fixups_in rows s.filled.fixups) place
      ≡ fixups_walk (site_of areas symbols ns s place) s.size (fragments_in ms es xs s.line.fragments) keeps (n - e) e p (fixups_in left k)
  pub within : Within s.filled.fixups (Ok k) rows left
  pub long : length left ≡ length rows
  pub room : 9216 ≤ length rows
  pub numbers : s.made ≤ length ns
  pub ready : Ready s
  pub clear : Clear ms es s.line.fragments e t

pub walk_start : (ms es xs areas symbols ns : List ℕ) (s : Site) (keeps : List ℕ) (rows : List ℕ) → Ready s → s.made ≤ length ns → 9216 ≤ length rows → {n : ℕ} → n ≡ s.line.width + s.line.bytes
    → {t : ℕ} → Clear ms es s.line.fragments 0 t → Walking ms es xs areas symbols ns s keeps n rows rows s.filled.fixups 0 s.line.address t
unfolding line_at
walk_start ms es xs areas symbols ns s keeps rows r hn hr {n} e f = record {
  whole = e;
  inside = omega arith;
  rest = λ place. let z : n - 0 ≡ s.line.width + s.line.bytes = omega arith in rw z;
  within = same s.filled.fixups rows r.fixups;
  long = refl;
  room = hr;
  numbers = hn;
  ready = r;
  clear = f;
}

out_of : (w : defs.Site) (size : ℕ) (fs : List Fragment) (keeps : List ℕ) (m e p : ℕ) (xs : List Fixup) → size ≤ p → fixups_walk w size fs keeps m e p xs ≡ fine xs
unfolding fixups_walk
out_of w size fs keeps zero e p xs h = refl
out_of w size fs keeps (suc m) e p xs h = rw (le-ltb p size h)

module _ {ms es xs areas symbols ns : List ℕ} {s : Site} {keeps : List ℕ} {n : ℕ} {rows left : List ℕ} {k e p t : ℕ}
    (w : Walking ms es xs areas symbols ns s keeps n rows left k e p t) where
  pub walk_end : n ≤ t → Made (line_at ms es xs areas symbols ns s keeps (fixups_in rows s.filled.fixups)) s.filled.fixups rows (Ok k) left
  walk_end h = record {
    says = λ place. sym (w.rest place ∙ none_left (site_of areas symbols ns s place) s.size ms es xs s.line.fragments keeps (n - e) e p (fixups_in left k) w.clear (omega (arith, w.inside)));
    within = w.within;
  }

  pub walk-room : k ≤ 1024
  walk-room = w.within.room

  pub walk-long : 9216 ≤ length left
  walk-long = omega (arith, w.long, w.room)

  pub walk-numbers : s.made ≤ length ns
  walk-numbers = w.numbers

  pub walk-ready : Ready s
  walk-ready = w.ready

  pub walk-clear : Clear ms es s.line.fragments e t
  walk-clear = w.clear

  pub entry-fits : t < n → Fits w32 (e + 1)
  entry-fits h = record { fits = omega (arith, w.whole, w.ready.line.address, w.ready.line.content, w.clear.above) }

  pub walk-less : t < n → n - (e + 1) < n - e
  walk-less h = omega (arith, w.clear.above)

  pub grow-fits : p < s.size → (b : Bool) {y : ℕ} → y ≡ pick b 1 0 → Fits w32 (p + y)
  grow-fits h b ey = record { fits = omega (arith, w.ready.inside, one_at_most b) }

  pub walk-out : s.size ≤ p → Made (line_at ms es xs areas symbols ns s keeps (fixups_in rows s.filled.fixups)) s.filled.fixups rows (Ok k) left
  walk-out l = record {
    says = λ place. sym (w.rest place ∙ out_of (site_of areas symbols ns s place) s.size (fragments_in ms es xs s.line.fragments) keeps (n - e) e p (fixups_in left k) l);
    within = w.within;
  }

  module _ (h : t < n) (l : p < s.size) {r : Result ℕ ℕ} {left' : List ℕ} (a : Made (entry_at ms es xs areas symbols ns s e p (fixups_in left k)) k left r left') where
    onward : (place : ℕ) → line_at ms es xs areas symbols ns s keeps (fixups_in rows s.filled.fixups) place
        ≡ and_then (told place r left') (λ ys. fixups_walk (site_of areas symbols ns s place) s.size (fragments_in ms es xs s.line.fragments) keeps (n - suc e) (suc e) (p + pick (eqb (get_or keeps e 0) 1) 1 0) ys)
    unfolding fixups_walk entry_at
    onward place =
        let z : n - e ≡ suc (n - suc e) = omega (arith, w.clear.above) in
        w.rest place ∙ (ap (λ (y : ℕ). fixups_walk (site_of areas symbols ns s place) s.size (fragments_in ms es xs s.line.fragments) keeps y e p (fixups_in left k)) z
        ∙ rw (lt-ltb p s.size l, ← a.says place))

    pub walk-stop : {x : ℕ} → r ≡ Err x → Made (line_at ms es xs areas symbols ns s keeps (fixups_in rows s.filled.fixups)) s.filled.fixups rows (Err x) left'
    walk-stop g = record { says = λ place. sym (rw g at (onward place)); within = rw g at (then-within w.within a.within) }

    pub walk_more : {x : ℕ} → r ≡ Ok x → length left' ≡ length left → {y : ℕ} → y ≡ pick (eqb (get_or keeps e 0) 1) 1 0
        → {u : ℕ} → ((d : ℕ) → d ≤ e + 1 → Clear ms es s.line.fragments d t → Clear ms es s.line.fragments (e + 1) u)
        → Walking ms es xs areas symbols ns s keeps n rows left' x (e + 1) (p + y) u
    walk_more {x} g q ey f = record {
      whole = w.whole;
      inside = omega (arith, w.clear.above);
      rest = λ place. rw (ey, add-one) (rw g at (onward place));
      within = rw g at (then-within w.within a.within);
      long = q ∙ w.long;
      room = w.room;
      numbers = w.numbers;
      ready = w.ready;
      clear = f e (omega arith) w.clear;
    }

pub ruleset walking = (rules, walk_start, walk_end, walk-room, walk-long, walk-numbers, walk-ready, walk-clear, walk-out, walk-stop, walk_more)

pub ruleset bounds = (rules, entry-fits, grow-fits, walk-less)
