-- The laws of where group two begins.
-- Assumes nothing.
use Prim.Native.Nat.{ℕ, ◌*◌, ◌-◌, ◌<◌, ◌≤◌}
use mathlib.Core.Path.{◌≡◌, ap, refl, sym, ◌∙◌}
use mathlib.Core.Bool.{Bool, false, true}
use mathlib.Core.List.{List, [], ◌∷◌}
use native.Mathlib.Omega.{arith}
use lib.ListN.{length}
use borrow.Author.Rules.{rules}
use Rattle.format.specs.Header.{Form}
use Rattle.format.specs.Entries as entries
use Rattle.format.specs.Records.{Records, Taken, goes, last, stops}
use Rattle.laws.specs.Places.{end_at, entry_at, line_end, next_line, pairs_at, part_of, records_at}
use Rattle.laws.proofs.Places.{records-at}
use Rattle.entry_line.specs.Told.{entry_of}
use Rattle.entry_line.specs.declared.Entry.{Entry}
use Rattle.steps.specs.Entries.{StepBounds, StepIn, told_step}
use Rattle.steps.specs.declared.entry.EntryStep.{EntryStep}
use Rattle.steps.specs.declared.entry.EntryStep.TheVariants.{Stops, Takes}
use Rattle.record_rows.proofs.Bounds.{no_last}
use Rattle.records.specs.Walking.{TwoAt}

-- `group_two_at`
entry-last : (f : Form) (text : List ℕ) (p : ℕ) (x : Taken entries.Entry) → entry_at true f text p ≡ last x → ⊥
unfolding entry_at
entry-last f text p x k = no_last p (line_end text p - p) (end_at text p) (next_line text p) (entries.entry_line f (part_of text p (line_end text p)) 0) x k

pub record OneOn (f : Form) (text : List ℕ) (at p : ℕ) : Type 0 where
  pub two : (records_at true f text at).pairs ≡ (records_at true f text p).pairs
  pub inside : p ≤ length text

pub one-start : (f : Form) (text : List ℕ) (at : ℕ) → at ≤ length text → OneOn f text at at
one-start f text at h = record { two = refl; inside = h }

module _ {f : Form} {text : List ℕ} {at p : ℕ} (w : OneOn f text at p) {st : EntryStep} (e : told_step p st ≡ entry_at true f text p) where
  pub one-stops : st ≡ Stops → TwoAt f text at p
  one-stops g =
      let s : stops ≡ entry_at true f text p = rw g at e in
      let r : records_at true f text p ≡ record { entries = []; pairs = pairs_at true f text p } = records-at true f text p ∙ rw (← s) in
      record { two = w.two ∙ ap (λ (r : Records). r.pairs) r; inside = w.inside }

  module _ (l : StepIn text p st) {en : Entry} {x next : ℕ} {on : Bool} (g : st ≡ Takes en x next on) where
    bounds : StepBounds text p (Takes en x next on)
    bounds = rw g at l.bounds

    step-on : on ≡ true
    step-on = go on (rw g at e)
      where
        go : (b : Bool) → told_step p (Takes en x next b) ≡ entry_at true f text p → b ≡ true
        go true k = refl
        go false k = absurd (entry-last f text p _ (sym k))

    pub one_less : length text - next < length text - p
    one_less = omega (arith, bounds.3 step-on, bounds.2)

    pub one_more : OneOn f text at next
    one_more =
        let k : goes (record { place = p; end = x; body = entry_of en }) ≡ entry_at true f text p = go on step-on (rw g at e) in
        let r : records_at true f text p ≡ record { entries = record { place = p; end = x; body = entry_of en } ∷ (records_at true f text next).entries; pairs = (records_at true f text next).pairs } = records-at true f text p ∙ rw (← k, bounds.1) in
        record { two = w.two ∙ ap (λ (r : Records). r.pairs) r; inside = bounds.2 }
      where
        go : (b : Bool) → b ≡ true → told_step p (Takes en x next b) ≡ entry_at true f text p → goes (record { place = p; end = x; body = entry_of en }) ≡ entry_at true f text p
        go true i k = k
        go false i k = absurd (let z : ◌≡◌ {A = ℕ} 0 1 = cc in omega arith)

pub ruleset grouping = (rules, one-start, one-stops, one_less, one_more)
