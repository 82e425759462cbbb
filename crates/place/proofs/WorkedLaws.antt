-- What the proofs of a pair with fragments cite: its work line, its rows or a refusal, and its images.
-- Assumes nothing.
use Prim.Native.Nat.{ℕ, ◌+◌, ◌*◌, ◌≤◌}
use mathlib.Core.Path.{◌≡◌, refl, sym, ap, ◌∙◌}
use mathlib.Core.Bool.{true, ◌&&◌}
use mathlib.Core.List.{List}
use mathlib.Core.Option.{some}
use native.Mathlib.Omega.{arith}
use lib.Dec.{leb}
use lib.ListN.{length, take, drop}
use lib.Seq.{length-take-le}
use borrow.Author.Rules.{rules}
use borrow.Author.Tests.{le-leb}
use Rattle.std.specs.Prelude.{Result, Ok, Err}
use Rattle.checks.specs.declared.check.Fault.{Fault}
use Rattle.checks.specs.declared.check.Fault.TheVariants as fault
use Rattle.format.specs.Outcome.{Outcome, fine, refused, and_then}
use Rattle.format.specs.Placing.{walk, walk_by, place_at}
use Rattle.format.specs.WorkLine.{padded, work_line, fresh}
use Rattle.format.specs.WorkLine as defs
use Rattle.laws.specs.Rows.{fixups_in, state_of}
use Rattle.sites.specs.declared.Site.{Site}
use Rattle.sites.specs.Columns.{fragments_in}
use Rattle.sites.specs.Site.{Ready, is_ready, made_at}
use Rattle.sites.proofs.Fitting.{line-true, ready-true, tables-all}
use Rattle.images.specs.Image.{image_of, moved, Written}
use Rattle.images.proofs.CountLaws.{known-still}
use Rattle.images.proofs.Use.{Walked, imaged-when}
use Rattle.fixups.specs.Walk.{site_of, line_at}
use Rattle.fixups.specs.Pass.{PairRows}
use Rattle.place.specs.declared.pair.Placed.{Placed}
use Rattle.place.specs.declared.pair.Placed.TheVariants.{Done, Stopped, Misfit}
use Rattle.std.specs.Prelude.{Option as Answer, Some, None}
use Rattle.work.specs.Work.{line_of, all_turns, made_by, Whole, WorkIs}
use Rattle.place.specs.Pair.{form_of, tables_of, pair_at, after_work, stopped_by, site_pair, worked_pair, Prepared, Placeable, PairPlaced}
use Rattle.work.proofs.Use.{merged, whole_by}
use Rattle.place.proofs.Order.{imaged, split}

-- ------------------------------------------------------------------ `place_worked`: q is what the work line answered

made-ready : {s : Site} → Ready s → {n : ℕ} → n ≤ 64 → Ready (made_at s n)
made-ready r h = record { line = r.line; areas = r.areas; symbols = r.symbols; fixups = r.fixups; inside = r.inside; numbers = h }

module _ (s : Site) (ms es xs areas symbols ns wv wm wk vs masks rs : List ℕ) {q : Answer ℕ} where
  pub pair-beyond : q ≡ None → PairPlaced true (worked_pair s q ms es xs areas symbols ns wv wm wk (state_of vs masks rs s.filled.fixups)) s.filled.known vs masks rs (Stopped 10 s.line.place) vs masks rs
  unfolding worked_pair after_work
  pair-beyond g = record {
    says = λ radix end. rw g;
    few = omega arith;
    rest = refl;
    same = λ e. (refl, (refl, refl));
    bits = known-still s.filled.known masks refl;
  }

  module _ (ready : Ready s) {n : ℕ} (g : q ≡ Some n) where
    worked : (radix place : ℕ) → after_work s q ms es xs areas symbols ns wv wm wk (state_of vs masks rs s.filled.fixups) radix place
        ≡ and_then (line_at ms es xs areas symbols ns (made_at s n) wk (fixups_in rs s.filled.fixups) place)
        (λ ys. fine (record { values = image_of s wv wk vs; masks = image_of s wm wk masks; fixups = ys }))
    unfolding after_work line_at site_of walk_by line_of state_of image_of imaged
    worked radix place =
        rw (g, tables-all areas symbols s.filled ready.areas)
        (split (walk_by (tables_of areas symbols s) place s.id s.start s.size (fragments_in ms es xs s.line.fragments) (line_of wv wm wk ns n)) (s.line.width + s.line.bytes) 0 s.line.address (state_of vs masks rs s.filled.fixups))

    -- rows made, and the images written
    pub walked : {x : ℕ} {rs' : List ℕ} → ((place : ℕ) → fine (fixups_in rs' x) ≡ line_at ms es xs areas symbols ns (made_at s n) wk (fixups_in rs s.filled.fixups) place) → x ≤ 1024 → drop (9 * x) rs' ≡ drop (9 * x) rs
        → {vs' masks' : List ℕ} → Walked s wv wm wk vs masks vs' masks' → {known : ℕ} → known ≡ moved s.filled.known masks masks'
        → PairPlaced true (worked_pair s q ms es xs areas symbols ns wv wm wk (state_of vs masks rs s.filled.fixups)) s.filled.known vs masks rs (Done x known) vs' masks' rs'
    unfolding state_of worked_pair
    walked b few rest i k = record {
      says = λ radix end. ap some (sym (worked radix s.line.place ∙ rw (← b s.line.place, ← i.values, ← i.masks)));
      few = few;
      rest = rest;
      same = λ f. let z : ◌≡◌ {A = ℕ} 0 1 = cc in absurd (omega arith);
      bits = k;
    }

    module _ (m : made_by q ≤ 64) (space : 9216 ≤ length rs) {r : Result ℕ Fault} {rs' : List ℕ}
        (a : PairRows (is_ready (made_at s n) && leb 9216 (length rs)) (line_at ms es xs areas symbols ns (made_at s n) wk (fixups_in rs s.filled.fixups)) rs r rs') where
      settled : PairRows true (line_at ms es xs areas symbols ns (made_at s n) wk (fixups_in rs s.filled.fixups)) rs r rs'
      settled = rw (ready-true (made-ready ready (rw g at m)), le-leb 9216 (length rs) space) at a

      pair-unfit : r ≡ Err fault.Misfit → PairPlaced true (worked_pair s q ms es xs areas symbols ns wv wm wk (state_of vs masks rs s.filled.fixups)) s.filled.known vs masks rs Misfit vs masks rs'
      pair-unfit e = let b = rw e at (settled.says 0) in let z : ◌≡◌ {A = ℕ} 0 1 = cc in absurd (omega arith)

      pair-refused : {x : ℕ} → r ≡ Err (fault.Refused x) → PairPlaced true (worked_pair s q ms es xs areas symbols ns wv wm wk (state_of vs masks rs s.filled.fixups)) s.filled.known vs masks rs (Stopped x s.line.place) vs masks rs'
      unfolding worked_pair
      pair-refused {x} e =
          let b : some (refused x s.line.place) ≡ some (line_at ms es xs areas symbols ns (made_at s n) wk (fixups_in rs s.filled.fixups) s.line.place) = rw e at (settled.says s.line.place) in
          let k : rs' ≡ rs = settled.same (rw e) in
          let d : refused x s.line.place ≡ line_at ms es xs areas symbols ns (made_at s n) wk (fixups_in rs s.filled.fixups) s.line.place = cc in
          record {
            says = λ radix end. ap some (sym (worked radix s.line.place ∙ rw (← d)));
            few = omega arith;
            rest = k;
            same = λ f. (refl, (refl, k));
            bits = known-still s.filled.known masks refl;
          }

      stop : (f : Fault) → r ≡ Err f → PairPlaced true (worked_pair s q ms es xs areas symbols ns wv wm wk (state_of vs masks rs s.filled.fixups)) s.filled.known vs masks rs (stopped_by f s.line.place) vs masks rs'
      stop fault.Misfit e = pair-unfit e
      stop (fault.Refused x) e = pair-refused e

      pub pair-stopped : {f : Fault} → r ≡ Err f → {p : Placed} → p ≡ stopped_by f s.line.place
          → PairPlaced true (worked_pair s q ms es xs areas symbols ns wv wm wk (state_of vs masks rs s.filled.fixups)) s.filled.known vs masks rs p vs masks rs'
      pair-stopped {f} e g = rw g (stop f e)

      pub pair-walked : {x : ℕ} → r ≡ Ok x → {vs' masks' : List ℕ} {t : ℕ} → Written (is_ready s) (image_of s wv wk vs) (image_of s wm wk masks) s.filled.known vs masks t vs' masks'
          → PairPlaced true (worked_pair s q ms es xs areas symbols ns wv wm wk (state_of vs masks rs s.filled.fixups)) s.filled.known vs masks rs (Done x t) vs' masks' rs'
      pair-walked {x} e w =
          walked (λ place. let b = rw e at (settled.says place) in cc) (rw e at settled.few) (rw e at settled.rest) (imaged-when ready w) w.answer

pub ruleset relocating = (rules, pair-beyond, pair-stopped, pair-walked)

-- ------------------------------------------------------------------ `place_fragments`

module _ (s : Site) (bs ms es rs : List ℕ) (p : Placeable s bs rs) where
  pub prepared-by : {q : Answer ℕ} {wv wm wk ns : List ℕ} → Whole (all_turns s.line ms es (fresh s.line.width (take s.line.bytes bs))) s.line.fragments q wv wm wk ns → Prepared s bs ms es q ns wv wm wk
  unfolding pair_at place_at all_turns after_work
  prepared-by t = record {
    turned = λ xs areas symbols st radix place.
        rw (length-take-le s.line.bytes bs p.lent) (merged (form_of radix s.line) s.line.bytes place 0 (fragments_in ms es xs s.line.fragments) (fresh s.line.width (take s.line.bytes bs)) _
        ∙ ap (λ (o : Outcome defs.Worked). and_then o (λ d. walk (walk_by (tables_of areas symbols s) place s.id s.start s.size (fragments_in ms es xs s.line.fragments) d) (s.line.width + s.line.bytes) 0 s.line.address st))
        (sym (t.says xs place)));
    few = omega (arith, t.few, p.ready.line.fragments);
  }

  module _ {wv₀ wm₀ wk₀ ns₀ : List ℕ} {q : Answer ℕ} {wv wm wk ns : List ℕ} (w : WorkIs s.line bs ms es wv₀ wm₀ wk₀ ns₀ q wv wm wk ns) where
    pub prepared : Prepared s bs ms es q ns wv wm wk
    prepared = prepared-by (whole_by w (line-true p.ready.line p.lent))

    pub few-made : made_by q ≤ 64
    few-made = prepared.few

pub pair-processed : (s : Site) (bs ms es xs areas symbols vs masks rs : List ℕ) {q : Answer ℕ} {wv wm wk ns : List ℕ} → Prepared s bs ms es q ns wv wm wk
    → {r : Placed} {vs' masks' rs' : List ℕ} → PairPlaced true (worked_pair s q ms es xs areas symbols ns wv wm wk (state_of vs masks rs s.filled.fixups)) s.filled.known vs masks rs r vs' masks' rs'
    → PairPlaced true (site_pair s bs ms es xs areas symbols (state_of vs masks rs s.filled.fixups)) s.filled.known vs masks rs r vs' masks' rs'
unfolding worked_pair site_pair
pair-processed s bs ms es xs areas symbols vs masks rs t a = record {
  says = λ radix end. a.says radix end ∙ ap some (sym (t.turned xs areas symbols (state_of vs masks rs s.filled.fixups) radix s.line.place));
  few = a.few;
  rest = a.rest;
  same = a.same;
  bits = a.bits;
}

pub ruleset processing = (rules, few-made, prepared, pair-processed)
