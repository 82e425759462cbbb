-- What the proofs of all fragments share: the loop's invariant and a law for each return.
-- Assumes nothing.
use Prim.Native.Nat.{ℕ, suc, ◌+◌, ◌-◌, ◌≤◌, ◌<◌}
use mathlib.Core.Path.{◌≡◌, refl, sym, ap, ◌∙◌}
use mathlib.Core.Bool.{Bool, true, false, not}
use mathlib.Core.List.{List}
use native.Mathlib.Numerals.{add-one}
use native.Mathlib.Omega.{arith}
use lib.Dec.{leb}
use lib.ListN.{length, take, drop, replicate}
use lib.Seq.{length-take-le, drop-drop}
use borrow.Author.Rules.{rules}
use borrow.Author.Tests.{not-true, not-false}
use Rattle.std.specs.Prelude.{Option as Answer, Some, None}
use Rattle.format.specs.Lists.{pick}
use Rattle.format.specs.Outcome.{Outcome, fine, refused}
use Rattle.format.specs.WorkLine.{padded, work_line, beyond, step_at, fresh}
use Rattle.format.specs.WorkLine as defs
use Rattle.laws.specs.Rows.{from}
use Rattle.sites.specs.declared.Line.{Line}
use Rattle.sites.specs.Columns.{fragment_at, fragments_in}
use Rattle.sites.specs.Site.{line_fits, Short}
use Rattle.sites.proofs.Fitting.{Lined, lined}
use Rattle.fresh_line.specs.Fresh.{LaidLine}
use Rattle.work.specs.Work.{line_of, turn_of, Reach, reach, reach_by, Turned, Reached, WorkIs}

-- what lies behind a place lies behind each later one
behind-later : (m j k : ℕ) → k ≡ m + j → (xs ys : List ℕ) → drop m xs ≡ drop m ys → drop k xs ≡ drop k ys
behind-later m j k e xs ys h = rw e (sym (drop-drop j m xs) ∙ (ap (drop j) h ∙ drop-drop j m ys))

-- a turn that stops, and one that goes on
stops : (b : Bool) (place : ℕ) (x : defs.Worked) → refused 10 place ≡ pick b (refused 10 place) (fine x) → b ≡ true
stops true place x e = refl
stops false place x e = let z : ◌≡◌ {A = ℕ} 0 1 = cc in absurd (omega arith)

goes : (b : Bool) (place : ℕ) (x y : defs.Worked) → fine y ≡ pick b (refused 10 place) (fine x) → (b ≡ false) × (y ≡ x)
goes true place x y e = let z : ◌≡◌ {A = ℕ} 0 1 = cc in absurd (omega arith)
goes false place x y e = (refl, cc)

-- i fragments are worked in, and m numbers made
pub record Working (l : Line) (ms es : List ℕ) (d : defs.Worked) (ns₀ wv wm wk ns : List ℕ) (m i : ℕ) : Type 0 where
  pub long : length ns ≡ length ns₀
  pub within : i ≤ l.fragments
  pub few : m ≤ i
  pub rest : (xs : List ℕ) → reach_by l ms es d xs ≡ reach l.width l.big l.bytes (from (fragment_at ms es xs) i (l.fragments - i)) (line_of wv wm wk ns m)
  pub behind : drop m ns ≡ drop m ns₀

pub work_start : (l : Line) (ms es wv wm wk ns : List ℕ) → Working l ms es (line_of wv wm wk ns 0) ns wv wm wk ns 0 0
unfolding fragments_in reach_by
work_start l ms es wv wm wk ns = record { long = refl; within = omega arith; few = omega arith; rest = λ xs. let e : l.fragments - 0 ≡ l.fragments = omega arith in rw e; behind = refl }

-- what was reached, by the line and the numbers that the code has then
reached : {o : (xs : List ℕ) → Reach} {c : ℕ} {ns₀ wv wm wk ns : List ℕ} {m : ℕ} (all : Bool) {r : Answer ℕ} → r ≡ pick all (Some m) None
    → ((xs : List ℕ) → o xs ≡ record { all = all; line = line_of wv wm wk ns m }) → length (take m ns) ≡ m → drop m ns ≡ drop m ns₀ → m ≤ c → Reached o c ns₀ r wv wm wk ns
unfolding line_of
reached {m = m} true er e h b few = record {
  answer = λ xs. rw (e xs, h) er;
  line = λ xs. rw (e xs, h);
  behind = λ xs. rw (e xs, h) b;
  few = rw er few;
}
reached {m = m} false er e h b few = record {
  answer = λ xs. rw (e xs) er;
  line = λ xs. rw (e xs, h);
  behind = λ xs. rw (e xs, h) b;
  few = rw er (omega arith);
}

module _ {l : Line} {ms es : List ℕ} {d : defs.Worked} {ns₀ wv wm wk ns : List ℕ} {m i : ℕ} (w : Working l ms es d ns₀ wv wm wk ns m i) (s : Short l) (room : 64 ≤ length ns₀) where
  made : length (take m ns) ≡ m
  made = length-take-le m ns (omega (arith, w.long, w.few, w.within, s.fragments))

  pub work-end : l.fragments ≤ i → Reached (reach_by l ms es d) l.fragments ns₀ (Some m) wv wm wk ns
  unfolding reach from
  work-end h = reached true refl (λ xs. let z : l.fragments - i ≡ 0 = omega arith in w.rest xs ∙ rw z) made w.behind (omega (arith, w.few, w.within))

  module _ (h : i < l.fragments) where
    pub work-room : m < length ns
    work-room = omega (arith, w.long, w.few, s.fragments)

    pub work-few : m < 64
    work-few = omega (arith, w.few, s.fragments)

    next : (xs : List ℕ) → reach_by l ms es d xs ≡ pick (beyond l.width l.bytes (fragment_at ms es xs i)) (record { all = false; line = line_of wv wm wk ns m })
        (reach l.width l.big l.bytes (from (fragment_at ms es xs) (suc i) (l.fragments - suc i)) (pick (leb l.width (fragment_at ms es xs i).entry) (step_at l.big (fragment_at ms es xs i) (line_of wv wm wk ns m)) (line_of wv wm wk ns m)))
    unfolding reach from
    next xs = let z : l.fragments - i ≡ suc (l.fragments - suc i) = omega arith in
        w.rest xs ∙ ap (λ (k : ℕ). reach l.width l.big l.bytes (from (fragment_at ms es xs) i k) (line_of wv wm wk ns m)) z

    module _ {wv' wm' wk' ns' : List ℕ} {r : Answer ℕ} (t : Turned l ms es i wv wm wk ns m r wv' wm' wk' ns') where
      pub work-beyond : r ≡ None → Reached (reach_by l ms es d) l.fragments ns₀ None wv' wm' wk' ns'
      unfolding turn_of
      work-beyond g =
          let q = t.still g in
          rw (q.0, q.1.0, q.1.1.0, q.1.1.1)
          (reached false refl (λ xs. next xs ∙ rw (stops (beyond l.width l.bytes (fragment_at ms es xs i)) 0 _ (rw g at (t.says xs 0)))) made w.behind (omega (arith, w.few, w.within)))

      pub work-more : {k : ℕ} → r ≡ Some k → length ns' ≡ length ns → Working l ms es d ns₀ wv' wm' wk' ns' k (i + 1)
      unfolding turn_of
      work-more {k} g q = record {
        long = q ∙ w.long;
        within = omega arith;
        few = let b = rw g at t.few in omega (arith, w.few);
        rest = λ xs. let o = goes (beyond l.width l.bytes (fragment_at ms es xs i)) 0 _ _ (rw g at (t.says xs 0)) in rw add-one (next xs ∙ rw (o.0, ← o.1));
        behind = let b = t.behind k g in b.1 ∙ behind-later m (k - m) k (omega (arith, b.0)) ns ns₀ w.behind;
      }

pub ruleset working = (rules, work_start, work-end, work-room, work-few, work-beyond, work-more)

-- ------------------------------------------------------------------ `work_line`

module _ (l : Line) (bs ms es wv₀ wm₀ wk₀ ns : List ℕ) {c : Bool} (ec : c ≡ line_fits l (length bs)) where
  pub line-unfit : not c ≡ true → {wv wm wk : List ℕ} → LaidLine l bs wv₀ wm₀ wk₀ wv wm wk → WorkIs l bs ms es wv₀ wm₀ wk₀ ns None wv wm wk ns
  line-unfit k d = record {
    says = λ e. let z : false ≡ true = sym (not-true c k) ∙ (ec ∙ e) in let y : ◌≡◌ {A = ℕ} 0 1 = cc in absurd (omega arith);
    unfit = λ e. (refl, (rw e at d.values, (rw e at d.masks, (rw e at d.keeps, refl))));
  }

  module _ (k : not c ≡ false) where
    is_true : line_fits l (length bs) ≡ true
    is_true = sym ec ∙ not-false c k

    facts : Lined l (length bs)
    facts = lined l (length bs) is_true

    pub line-short : Short l
    line-short = facts.line

    pub line-worked : {wv wm wk : List ℕ} → LaidLine l bs wv₀ wm₀ wk₀ wv wm wk → {r : Answer ℕ} {wv' wm' wk' ns' : List ℕ} → Reached (reach_by l ms es (line_of wv wm wk ns 0)) l.fragments ns r wv' wm' wk' ns'
        → WorkIs l bs ms es wv₀ wm₀ wk₀ ns r wv' wm' wk' ns'
    unfolding line_of fresh work_line
    line-worked {wv} {wm} {wk} d t =
        let ev : wv ≡ padded l.width l.bytes (take l.bytes bs) = rw is_true at d.values in
        let em : wm ≡ padded l.width l.bytes (replicate l.bytes 255) = rw is_true at d.masks in
        let ek : wk ≡ padded l.width l.bytes (replicate l.bytes 1) = rw is_true at d.keeps in
        record {
          says = λ e. rw (length-take-le l.bytes bs facts.bytes, ← ev, ← em, ← ek) t;
          unfit = λ e. let z : false ≡ true = sym e ∙ is_true in let y : ◌≡◌ {A = ℕ} 0 1 = cc in absurd (omega arith);
        }

pub ruleset lining = (rules, line-unfit, line-short, line-worked)
