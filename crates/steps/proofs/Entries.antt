-- The laws of the line at a place, and of what it does to group one.
-- Assumes nothing.
use Prim.Native.Nat.{ℕ, ◌+◌, ◌-◌, ◌<◌, ◌≤◌, ◌^◌}
use mathlib.Core.Path.{◌≡◌, refl, ap, sym, subst, ◌∙◌}
use mathlib.Core.Bool.{Bool, true, false, ◌&&◌}
use mathlib.Core.List.{List, [], ◌∷◌}
use native.Mathlib.Omega.{arith}
use native.Mathlib.Nat.{le_of_lt}
use lib.ListN.{length, take, drop, length-drop, drop_of_length-le}
use lib.Seq.{length-take-le, take-nil}
use Rattle.format.specs.Lists.{pick}
use Rattle.format.specs.Got.{is}
use Rattle.format.specs.Header.{Form}
use Rattle.format.specs.Lines.{end_length}
use Rattle.format.specs.Entries.{entry_line, ignored_line, is_ignored, letter_and_more}
use Rattle.format.specs.Records.{Step, stops, last, goes, step_of}
use lib.Dec.{leb, eqb}
use mir.Val.{Fits}
use mir.Syntax.{w64}
use borrow.Author.Rules.{rules}
use borrow.Author.Tests.{leb-true}
use Rattle.laws.specs.Places.{entry_at}
use Rattle.laws.proofs.Within.{Holds, EntryIn, Named, entry_in}
use Rattle.line_step.specs.Steps.{line_step}
use Rattle.line_step.specs.declared.LineStep.{LineStep}
use Rattle.line_step.specs.declared.LineStep.TheVariants.{Goes, Last, Stops as Halts}
use Rattle.entry_line.specs.Told.{entry_of, told_entry}
use Rattle.entry_line.specs.declared.Entry.{Entry}
use Rattle.entry_line.specs.declared.Entry.TheVariants.{Area, Symbol, Ignored}
use Rattle.std.specs.Prelude.{Result, Ok, Err}
use Rattle.numbers.specs.declared.Halt.{Halt}
use Rattle.numbers.specs.declared.Read.{Read}
use Rattle.steps.specs.Entries.{LineIs, StepIn, EntryFits, Placed}
use Rattle.text_lines.specs.Lines as lines
use Rattle.text_lines.specs.declared.LineAt.{LineAt}
use Rattle.steps.specs.declared.entry.EntryStep.TheVariants.{Stops, Takes}

pub end-within : (xs : List ℕ) → end_length xs ≤ length xs
unfolding end_length
end-within [] = omega arith
end-within (a ∷ []) = go (eqb a 10)
  where
    go : (t : Bool) → pick {A = ℕ} t 1 0 ≤ 1
    go true = omega arith
    go false = omega arith
end-within (a ∷ b ∷ r) = go (eqb a 10) (eqb a 13 && eqb b 10)
  where
    go : (t u : Bool) → pick {A = ℕ} t 1 (pick u 2 0) ≤ length (a ∷ b ∷ r)
    go true u = omega arith
    go false true = omega arith
    go false false = omega arith

-- the line at a place inside the text ends inside it
pub line-in : (s : List ℕ) {p : ℕ} {l : LineAt} → lines.LineIs s p l → p ≤ length s → LineIs s p l
line-in s w h = record {
  ends_at = w.ends_at;
  line-end = w.line-end;
  behind = w.behind;
  from = w.from;
  width = w.width;
  inside = w.inside h;
}

pub ruleset lining = (rules, line-in)

-- past the end no line is taken
pub step_past : (ended : Bool) (f : Form) (s : List ℕ) (p : ℕ) → length s < p → stops ≡ entry_at ended f s p
unfolding entry_at entry_line ignored_line is_ignored letter_and_more
step_past ended f s p h = rw (drop_of_length-le s (le_of_lt h), take-nil)

pub step-in-none : (s : List ℕ) (p : ℕ) → StepIn s p Stops
step-in-none s p = record { bounds = tt }

module _ (s : List ℕ) {p : ℕ} {l : LineAt} (w : LineIs s p l) where
  pub end-in : l.end ≤ length s
  end-in = omega (arith, w.width, w.inside)

-- a step of a line that was read, as that of its group
abbrev as_step : {A : Type 0} → ℕ → A → LineStep → Step A
as_step p b Halts = stops
as_step p b (Goes x) = goes (record { place = p; end = x; body = b })
as_step p b (Last x) = last (record { place = p; end = x; body = b })

step-as : {A : Type 0} (ended : Bool) (p n e next u : ℕ) (b : A) → step_of ended p n e next (is b u) ≡ as_step p b (line_step ended u n e next (p + u))
step-as ended p n e next u b = go (eqb u n && leb 1 e) ended
  where
    go : (t y : Bool) → pick t (goes (record { place = p; end = pick y next (p + u); body = b })) (pick y stops (last (record { place = p; end = p + u; body = b })))
        ≡ as_step p b (pick t (Goes (pick y next (p + u))) (pick y Halts (Last (p + u))))
    go true y = refl
    go false true = refl
    go false false = refl

entry-at : (ended : Bool) (f : Form) (s : List ℕ) (p : ℕ) {l : LineAt} → LineIs s p l → (y : Result (Read Entry) Halt) → told_entry y ≡ entry_line f (take (l.end - p) (drop p s)) 0
    → entry_at ended f s p ≡ step_of ended p (l.end - p) l.ends l.next (told_entry y)
unfolding entry_at
entry-at ended f s p w y d = rw (← w.ends_at, ← w.line-end, ← w.behind, d)

module _ (ended : Bool) (f : Form) (s : List ℕ) (p : ℕ) {l : LineAt} (w : LineIs s p l) {y : Result (Read Entry) Halt}
    (d : told_entry y ≡ entry_line f (take (l.end - p) (drop p s)) 0) where
  pub step-1 : {h : Halt} → y ≡ Err h → stops ≡ entry_at ended f s p
  step-1 g = sym (entry-at ended f s p w y d ∙ rw g)

  module _ {en : Read Entry} (g : y ≡ Ok en) {o : LineStep} (h : o ≡ line_step ended en.next (l.end - p) l.ends l.next (p + en.next)) where
    taken : entry_at ended f s p ≡ as_step p (entry_of en.value) o
    taken = entry-at ended f s p w y d ∙ rw (g, h) (step-as ended p (l.end - p) l.ends l.next en.next (entry_of en.value))

    pub step-2 : {x : ℕ} → o ≡ Goes x → goes (record { place = p; end = x; body = entry_of en.value }) ≡ entry_at ended f s p
    step-2 i = sym (taken ∙ rw i)

    pub step-3 : o ≡ Halts → stops ≡ entry_at ended f s p
    step-3 i = sym (taken ∙ rw i)

    pub step-4 : {x : ℕ} → o ≡ Last x → last (record { place = p; end = x; body = entry_of en.value }) ≡ entry_at ended f s p
    step-4 i = sym (taken ∙ rw i)

pub some_end : (x : Bool) (e : ℕ) → (x && leb 1 e) ≡ true → 1 ≤ e
some_end true e w = leb-true 1 e w
some_end false e w = absurd (let z : ◌≡◌ {A = ℕ} 0 1 = cc in omega arith)

-- where a line goes on, a full line end stands behind it
pub goes-ends : (ended : Bool) (u n e next q : ℕ) {x : ℕ} → line_step ended u n e next q ≡ Goes x → 1 ≤ e
goes-ends ended u n e next q {x} h = go (eqb u n && leb 1 e) ended refl h
  where
    go : (t y : Bool) → (eqb u n && leb 1 e) ≡ t → pick t (Goes (pick y next q)) (pick y Halts (Last q)) ≡ Goes x → 1 ≤ e
    go true y i j = some_end (eqb u n) e i
    go false true i j = absurd (let z : ◌≡◌ {A = ℕ} 0 1 = cc in omega arith)
    go false false i j = absurd (let z : ◌≡◌ {A = ℕ} 0 1 = cc in omega arith)

-- what is read of the line stands inside it
fits_in : (s part : List ℕ) (p n : ℕ) (en : Entry) → p + length part ≤ n → Named part (entry_of en) → EntryFits n p en
fits_in s part p n (Area a k z g x) h w = omega arith
fits_in s part p n (Symbol a k r v) h w = omega arith
fits_in s part p n Ignored h w = omega arith

module _ (f : Form) (s : List ℕ) (p : ℕ) {l : LineAt} (w : LineIs s p l) {y : Result (Read Entry) Halt} (d : told_entry y ≡ entry_line f (take (l.end - p) (drop p s)) 0)
    {en : Read Entry} (g : y ≡ Ok en) where
  part_length : p + length (take (l.end - p) (drop p s)) ≡ l.end
  part_length =
      let k : l.end - p ≤ length (drop p s) = omega (arith, length-drop p s, end-in s w) in
      omega (arith, length-take-le (l.end - p) (drop p s) k, w.from)

  entry-inside : EntryIn (take (l.end - p) (drop p s)) (entry_of en.value) en.next
  entry-inside = subst (Holds (EntryIn (take (l.end - p) (drop p s)))) (sym d ∙ ap told_entry g) (entry_in f (take (l.end - p) (drop p s)) 0 (omega arith))

  used-inside : p + en.next ≤ length s
  used-inside = omega (arith, entry-inside.0, part_length, end-in s w)

  pub used-fits : length s < 2 ^ 64 → Fits w64 (p + en.next)
  used-fits k = record { fits = omega (arith, used-inside) }

  entry-fits : Placed (length s) p en.value
  entry-fits = record { fits = fits_in s (take (l.end - p) (drop p s)) p (length s) en.value (omega (arith, part_length, end-in s w)) entry-inside.1 }

  pub step-in-last : (x : ℕ) → StepIn s p (Takes en.value x l.next false)
  step-in-last x = record { bounds = (entry-fits, w.behind, w.inside, λ e. absurd (let z : ◌≡◌ {A = ℕ} 0 1 = cc in omega arith)) }

  pub step-in-goes : (ended : Bool) {o : LineStep} → o ≡ line_step ended en.next (l.end - p) l.ends l.next (p + en.next) → {x : ℕ} → o ≡ Goes x → StepIn s p (Takes en.value x l.next true)
  step-in-goes ended i j = record { bounds = (entry-fits, w.behind, w.inside, λ e. omega (arith, w.from, w.width, goes-ends ended en.next (l.end - p) l.ends l.next (p + en.next) (sym i ∙ j))) }

pub ruleset steps = (rules, end-in, step_past, used-fits, step-1, step-2, step-3, step-4, step-in-none, step-in-last, step-in-goes)
