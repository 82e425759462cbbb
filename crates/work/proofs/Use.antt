-- What a caller makes of a work line: the definition's outcome of all fragments.
-- Assumes nothing.
use Prim.Native.Nat.{ℕ, suc}
use mathlib.Core.Path.{◌≡◌, refl, sym, ap, ◌∙◌}
use mathlib.Core.Bool.{Bool, true, false}
use mathlib.Core.List.{List, [], ◌∷◌}
use lib.Dec.{leb}
use lib.ListN.{length, take}
use Rattle.std.specs.Prelude.{Option as Answer, Some, None}
use Rattle.format.specs.Lists.{pick}
use Rattle.format.specs.Header.{Form}
use Rattle.format.specs.Pairs.{Fragment}
use Rattle.format.specs.Outcome.{Outcome, fine, refused, and_then, fold}
use Rattle.format.specs.WorkLine.{beyond, in_line, step_at, step_all, fresh}
use Rattle.format.specs.WorkLine as defs
use Rattle.sites.specs.declared.Line.{Line}
use Rattle.sites.specs.Columns.{fragments_in}
use Rattle.sites.specs.Site.{line_fits}
use Rattle.work.specs.Work.{line_of, turn_of, turns, all_turns, told, Reach, reach, reach_by, Reached, WorkIs, Whole}

-- 10 for each fragment and then its step, or 10 for all and then all steps: the same
pub merged : {A : Type 0} (fm : Form) (n place k : ℕ) (fs : List Fragment) (d : defs.Worked) (f : defs.Worked → Outcome A)
    → and_then (fold (in_line fm.address_length n place) k fs) (λ j. f (step_all fm fs d)) ≡ and_then (turns fm.address_length fm.big n place fs d) f
unfolding fold in_line step_all turns turn_of
merged fm n place k [] d f = refl
merged fm n place k (x ∷ xs) d f = go (beyond fm.address_length n x) (merged fm n place (suc k) xs (pick (leb fm.address_length x.entry) (step_at fm.big x d) d) f)
  where
    go : (b : Bool) → and_then (fold (in_line fm.address_length n place) (suc k) xs) (λ j. f (step_all fm xs (pick (leb fm.address_length x.entry) (step_at fm.big x d) d)))
        ≡ and_then (turns fm.address_length fm.big n place xs (pick (leb fm.address_length x.entry) (step_at fm.big x d) d)) f
        → and_then (and_then (pick b (refused 10 place) (fine (suc k))) (λ s. fold (in_line fm.address_length n place) s xs)) (λ j. f (step_all fm xs (pick (leb fm.address_length x.entry) (step_at fm.big x d) d)))
        ≡ and_then (and_then (pick b (refused 10 place) (fine (pick (leb fm.address_length x.entry) (step_at fm.big x d) d))) (λ e. turns fm.address_length fm.big n place xs e)) f
    go true ih = refl
    go false ih = ih

-- all turns, by how far the fragments go
turns-reach : (a : ℕ) (big : Bool) (n place : ℕ) (fs : List Fragment) (d : defs.Worked)
    → turns a big n place fs d ≡ pick (reach a big n fs d).all (fine (reach a big n fs d).line) (refused 10 place)
unfolding turns turn_of reach
turns-reach a big n place [] d = refl
turns-reach a big n place (f ∷ fs) d = go (beyond a n f) (turns-reach a big n place fs (pick (leb a f.entry) (step_at big f d) d))
  where
    go : (b : Bool) → turns a big n place fs (pick (leb a f.entry) (step_at big f d) d)
        ≡ pick (reach a big n fs (pick (leb a f.entry) (step_at big f d) d)).all (fine (reach a big n fs (pick (leb a f.entry) (step_at big f d) d)).line) (refused 10 place)
        → and_then (pick b (refused 10 place) (fine (pick (leb a f.entry) (step_at big f d) d))) (λ e. turns a big n place fs e)
        ≡ pick (pick b (record { all = false; line = d }) (reach a big n fs (pick (leb a f.entry) (step_at big f d) d))).all
        (fine (pick b (record { all = false; line = d }) (reach a big n fs (pick (leb a f.entry) (step_at big f d) d))).line) (refused 10 place)
    go true ih = refl
    go false ih = ih

-- what the answer tells of a reach
told-by : (o : Reach) (place : ℕ) (r : Answer ℕ) (wv wm wk ns : List ℕ) → (b : Bool) → o.all ≡ b → r ≡ pick b (Some (length o.line.numbers)) None → o.line ≡ line_of wv wm wk ns (length o.line.numbers)
    → told place r wv wm wk ns ≡ pick b (fine o.line) (refused 10 place)
told-by o place r wv wm wk ns true e a q = rw a (ap fine (sym q))
told-by o place r wv wm wk ns false e a q = rw a

-- a line within the bounds: its answer is the outcome of all turns
pub whole_by : {l : Line} {bs ms es wv wm wk ns : List ℕ} {r : Answer ℕ} {wv' wm' wk' ns' : List ℕ} → WorkIs l bs ms es wv wm wk ns r wv' wm' wk' ns' → line_fits l (length bs) ≡ true
    → Whole (all_turns l ms es (fresh l.width (take l.bytes bs))) l.fragments r wv' wm' wk' ns'
unfolding all_turns reach_by
whole_by {l} {bs} {ms} {es} {r = r} {wv'} {wm'} {wk'} {ns'} w h =
    let t = w.says h in
    let d = fresh l.width (take l.bytes bs) in
    record {
      says = λ xs place.
          told-by (reach_by l ms es d xs) place r wv' wm' wk' ns' (reach_by l ms es d xs).all refl (t.answer xs) (t.line xs)
          ∙ sym (turns-reach l.width l.big l.bytes place (fragments_in ms es xs l.fragments) d);
      few = t.few;
    }
