-- What the proofs of the work line share: a law for each return, and the loop's invariant.
-- Assumes nothing.
use Prim.Native.Nat.{ℕ, ◌+◌, ◌-◌, ◌/◌, ◌%◌, ◌≤◌, ◌<◌}
use mathlib.Core.Path.{◌≡◌, refl, sym, ap, ◌∙◌}
use mathlib.Core.Bool.{Bool, true, false}
use mathlib.Core.List.{List, [], ◌∷◌, ◌++◌}
use mathlib.Core.Option.{none, some}
use native.Mathlib.Numerals.{add-one}
use native.Mathlib.Omega.{arith}
use lib.Dec.{eqb, ltb, leb}
use lib.ListN.{length, take, drop, get_or, set, length-drop}
use lib.Seq.{take-suc-set, drop-set-lt}
use borrow.Author.Rules.{rules}
use borrow.Author.Tests.{ltb-false, le-leb, lt-leb}
use borrow.Rule.Slice.PartMut.{put_mid}
use mir.Val.{Fits}
use mir.Syntax.{w64}
use Rattle.std.specs.Prelude.{Option as Answer, Some, None}
use Rattle.format.specs.Lists.{pick}
use Rattle.format.specs.Mode.{Class, class_of, bit, touched, touched_of}
use Rattle.format.specs.ModeStep.{number_by_of, values_by, masks_by, keeps_by, step_number, step_values, step_masks, step_keeps_of}
use Rattle.format.specs.Outcome.{fine, refused}
use Rattle.format.specs.WorkLine.{beyond, step_at, partly}
use Rattle.format.specs.WorkLine as defs
use Rattle.laws.specs.Rows.{from}
use Rattle.laws.proofs.Parts.{part_end, put-end}
use Rattle.mode_step.specs.Step as modes
use Rattle.sites.specs.declared.Line.{Line}
use Rattle.sites.specs.Columns.{fragment_at, fragments_in}
use Rattle.work.specs.Work.{line_of, turn_of, told, Reach, reach, reach_by, Applied, Turned, Reached}
use Rattle.sites.specs.Site as site

-- ------------------------------------------------------------------ a fragment

-- `apply`
pub on-parts : {c : Class} {three big : Bool} {entry : ℕ} {r : Answer ℕ} (wv wm wk : List ℕ) {vs' ms' ks' : List ℕ}
    → entry + touched_of c three ≤ length wv → entry + touched_of c three ≤ length wm → entry + touched_of c three ≤ length wk
    → modes.Modified c three big r (take (length wv - entry) (drop entry wv)) (take (length wm - entry) (drop entry wm)) (take (length wk - entry) (drop entry wk)) vs' ms' ks'
    → Applied c three big entry r wv wm wk (put_mid entry (length wv - entry) wv vs') (put_mid entry (length wm - entry) wm ms') (put_mid entry (length wk - entry) wk ks')
unfolding partly modes.fits
on-parts {c} {three} {big} {entry} wv wm wk hv hm hk q =
    let n = touched_of c three in
    let part : (xs : List ℕ) → entry + n ≤ length xs → leb n (length (take (length xs - entry) (drop entry xs))) ≡ true =
    λ xs h. le-leb n (length (take (length xs - entry) (drop entry xs))) (simp (part_end entry xs, length-drop) (omega arith)) in
    record {
      number = rw (part wv hv, part wm hm, part wk hk, part_end) at q.number;
      values = put-end (values_by c three) entry wv _ (omega arith) (rw (part wv hv, part wm hm, part wk hk) at q.values);
      masks = put-end (masks_by c three) entry wm _ (omega arith) (rw (part wv hv, part wm hm, part wk hk) at q.masks);
      keeps = put-end (keeps_by c three) entry wk _ (omega arith) (rw (part wv hv, part wm hm, part wk hk) at q.keeps);
    }

pub ruleset parts = (rules, on-parts)

-- `push`
pub pushed : (ns : List ℕ) (m x : ℕ) → m < length ns → {ns' : List ℕ} → ns' ≡ set ns m x → take (m + 1) ns' ≡ take m ns ++ x ∷ []
pushed ns m x h e = rw (e, add-one, take-suc-set ns m x h)

pub behind-pushed : (ns : List ℕ) (m x : ℕ) {ns' : List ℕ} → ns' ≡ set ns m x → drop (m + 1) ns' ≡ drop (m + 1) ns
behind-pushed ns m x e = rw e (drop-set-lt (m + 1) ns m x (omega arith))

-- `turn`
pub turn_low : (l : Line) (ms es : List ℕ) (i : ℕ) (wv wm wk ns : List ℕ) (m : ℕ) {e entry : ℕ} → e ≡ get_or es i 0 → entry ≡ e → entry < l.width
    → Turned l ms es i wv wm wk ns m (Some m) wv wm wk ns
unfolding turn_of beyond fragment_at
turn_low l ms es i wv wm wk ns m {entry = entry} ee ew h = record {
  says = λ xs place. rw (← ee, ← ew, lt-leb l.width entry h);
  few = omega arith;
  still = λ e. let z : ◌≡◌ {A = ℕ} 0 1 = cc in absurd (omega arith);
  behind = λ k e. let q : m ≡ k = cc in (omega arith, refl);
}

pub turn_on : (l : Line) (ms es : List ℕ) (i : ℕ) {e entry mode : ℕ} → mode ≡ get_or ms i 0 → e ≡ get_or es i 0 → entry ≡ e → l.width ≤ entry → {wv wm wk ns : List ℕ} {m : ℕ} {r : Answer ℕ} {wv' wm' wk' ns' : List ℕ}
    → ((ys zs : List ℕ) (j : ℕ) → mode ≡ get_or ys j 0 → entry ≡ get_or zs j 0 → l.width ≤ entry → Turned l ys zs j wv wm wk ns m r wv' wm' wk' ns') → Turned l ms es i wv wm wk ns m r wv' wm' wk' ns'
turn_on l ms es i em ee ew h f = f ms es i em (ew ∙ ee) h

pub ruleset turning = (rules, turn_low, turn_on)

-- `work_in`
pub has_room : {l : Line} → site.Short l → {t n : ℕ} {b : Bool} → b ≡ ltb (l.width + l.bytes) t → b ≡ false → 260 ≤ n → t ≤ n
has_room {l} s {t} eb g q = omega (arith, s.address, s.content, ltb-false (l.width + l.bytes) t (sym eb ∙ g))

module _ (l : Line) (mode entry : ℕ) (wv wm wk ns : List ℕ) (m : ℕ) {k : Class} (ek : k ≡ class_of mode) {b : Bool} (eb : b ≡ ltb (l.width + l.bytes) (entry + touched_of k (eqb (mode / 256 % 2) 1))) where
  touched-is : (ms es xs : List ℕ) (i : ℕ) → mode ≡ get_or ms i 0 → touched (fragment_at ms es xs i).mode ≡ touched_of k (eqb (mode / 256 % 2) 1)
  unfolding touched bit fragment_at
  touched-is ms es xs i em = rw (ek, em)

  pub turn-beyond : b ≡ true → (ms es : List ℕ) (i : ℕ) → mode ≡ get_or ms i 0 → entry ≡ get_or es i 0 → l.width ≤ entry → Turned l ms es i wv wm wk ns m None wv wm wk ns
  unfolding turn_of beyond fragment_at
  turn-beyond g ms es i em ee h = record {
    says = λ xs place. rw (← ee, touched-is ms es xs i em, le-leb l.width entry h, ← eb, g);
    few = omega arith;
    still = λ e. (refl, (refl, (refl, refl)));
    behind = λ k e. let z : ◌≡◌ {A = ℕ} 0 1 = cc in absurd (omega arith);
  }

  module _ (g : b ≡ false) where
    module _ {r : Answer ℕ} {wv' wm' wk' : List ℕ} (p : Applied k (eqb (mode / 256 % 2) 1) l.big entry r wv wm wk wv' wm' wk') where
      pub turn-never : r ≡ None → {ns'' : List ℕ} → (ms es : List ℕ) (i : ℕ) → mode ≡ get_or ms i 0 → entry ≡ get_or es i 0 → l.width ≤ entry → Turned l ms es i wv wm wk ns m None wv' wm' wk' ns''
      turn-never s ms es i em ee h = let z : none ≡ some (number_by_of l.big k (drop entry wv)) = rw s at p.number in let y : ◌≡◌ {A = ℕ} 0 1 = cc in absurd (omega arith)

      pub turn-steps : {x : ℕ} → r ≡ Some x → {y : ℕ} → y ≡ m + 1 → {ns' : List ℕ} → take (m + 1) ns' ≡ take m ns ++ x ∷ [] → drop (m + 1) ns' ≡ drop (m + 1) ns
          → (ms es : List ℕ) (i : ℕ) → mode ≡ get_or ms i 0 → entry ≡ get_or es i 0 → l.width ≤ entry → Turned l ms es i wv wm wk ns m (Some y) wv' wm' wk' ns'
      unfolding turn_of beyond step_at line_of step_number step_values step_masks step_keeps_of bit fragment_at
      turn-steps {x} s {y} er {ns'} q o ms es i em ee h =
          let nx : some x ≡ some (number_by_of l.big k (drop entry wv)) = rw s at p.number in
          let ex : x ≡ number_by_of l.big k (drop entry wv) = cc in
          record {
            says = λ xs place. rw (er, ← ee, touched-is ms es xs i em, le-leb l.width entry h, ← eb, g, q, ex, p.values, p.masks, p.keeps, ek, em);
            few = rw er (omega arith);
            still = λ e. let z : ◌≡◌ {A = ℕ} 0 1 = cc in absurd (omega arith);
            behind = λ j e. let v : y ≡ j = cc in let c : j ≡ m + 1 = sym v ∙ er in (omega arith, rw c o);
          }

pub one_more : (m : ℕ) → m < 64 → Fits w64 (m + 1)
one_more m h = record { fits = omega arith }

pub ruleset stepping = (rules, pushed, behind-pushed, one_more, turn-beyond, turn-never, turn-steps)
