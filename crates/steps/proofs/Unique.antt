-- No second answer fits the contract of a step.
-- Assumes nothing.
use Prim.Native.Nat.{ℕ}
use mathlib.Core.Path.{◌≡◌, refl, ap, sym, ◌∙◌}
use mathlib.Core.Bool.{Bool, true, false}
use mathlib.Core.List.{List}
use native.Mathlib.Omega.{arith}
use Rattle.format.specs.Header.{Form}
use Rattle.format.specs.Records.{Step, stops, last, goes}
use Rattle.format.specs.Pairs as the
use Rattle.laws.specs.Places.{next_line, pair_at}
use Rattle.entry_line.specs.Told.{entry_of}
use Rattle.entry_line.specs.declared.Entry.{Entry}
use Rattle.std.specs.Prelude.{Result, Ok, Err}
use Rattle.numbers.specs.declared.Halt.{Halt}
use Rattle.numbers.specs.declared.Read.{Read}
use Rattle.entry_line.proofs.Unique.{one-entry-line}
use Rattle.steps.specs.Entries.{told_step, StepBounds, StepIn}
use Rattle.steps.specs.PairLines.{BodyIs, StepSays, PairStepIs}
use Rattle.steps.specs.declared.entry.EntryStep.{EntryStep}
use Rattle.steps.specs.declared.entry.EntryStep.TheVariants.{Stops, Takes}
use Rattle.steps.specs.declared.pair.Body.{Body}
use Rattle.steps.specs.declared.pair.Body.TheVariants.{Skipped, Placed}
use Rattle.steps.specs.declared.pair.PairStep.{PairStep}
use Rattle.steps.specs.declared.pair.PairStep.TheVariants as of

entry-of : Result (Read Entry) Halt → Entry → Entry
entry-of (Ok r) d = r.value
entry-of (Err h) d = d

one_entry : (a b : Entry) → entry_of a ≡ entry_of b → a ≡ b
unfolding entry-of
one_entry a b e = ap (λ (l : Result (Read Entry) Halt). entry-of l a) (one-entry-line (Ok (record { value = a; next = 0 })) (Ok (record { value = b; next = 0 })) (rw e))

-- what a step takes
body_of : {A : Type 0} → A → Step A → A
body_of d (goes t) = t.body
body_of d (last t) = t.body
body_of d stops = d

end_of : {A : Type 0} → Step A → ℕ
end_of (goes t) = t.end
end_of (last t) = t.end
end_of stops = 0

-- `entry_step`
pub one-entry-step : (s : List ℕ) (p : ℕ) (a b : EntryStep) → told_step p a ≡ told_step p b → StepIn s p a → StepIn s p b → a ≡ b
unfolding body_of end_of
one-entry-step s p a b e f h = go a b e f.bounds h.bounds
  where
    all : (x y : Entry) (c d : ℕ) (on : Bool) {i j : ℕ} → entry_of x ≡ entry_of y → c ≡ d → i ≡ next_line s p → j ≡ next_line s p → Takes x c i on ≡ Takes y d j on
    all x y c d on h k u v = rw (one_entry x y h, k, u, v)

    go : (a b : EntryStep) → told_step p a ≡ told_step p b → StepBounds s p a → StepBounds s p b → a ≡ b
    go Stops Stops e u v = refl
    go Stops (Takes y d j true) e u v = absurd (let z : ◌≡◌ {A = ℕ} 0 1 = cc in omega arith)
    go Stops (Takes y d j false) e u v = absurd (let z : ◌≡◌ {A = ℕ} 0 1 = cc in omega arith)
    go (Takes x c i true) Stops e u v = absurd (let z : ◌≡◌ {A = ℕ} 0 1 = cc in omega arith)
    go (Takes x c i false) Stops e u v = absurd (let z : ◌≡◌ {A = ℕ} 0 1 = cc in omega arith)
    go (Takes x c i true) (Takes y d j false) e u v = absurd (let z : ◌≡◌ {A = ℕ} 0 1 = cc in omega arith)
    go (Takes x c i false) (Takes y d j true) e u v = absurd (let z : ◌≡◌ {A = ℕ} 0 1 = cc in omega arith)
    go (Takes x c i true) (Takes y d j true) e u v = all x y c d true (ap (body_of (entry_of x)) e) (ap end_of e) u.1 v.1
    go (Takes x c i false) (Takes y d j false) e u v = all x y c d false (ap (body_of (entry_of x)) e) (ap end_of e) u.1 v.1

-- `pair_step`: what is left in what was lent is given by `LeftAt`, the answer by the definition's step
module _ (c ms es xs c₁ ms₁ es₁ xs₁ c₂ ms₂ es₂ xs₂ : List ℕ) where
  one-body : (q : the.Pair) (a b : Body) → BodyIs q a c ms es xs c₁ ms₁ es₁ xs₁ → BodyIs q b c ms es xs c₂ ms₂ es₂ xs₂ → a ≡ b
  one-body the.skipped Skipped Skipped u v = refl
  one-body the.skipped Skipped (Placed x y z k) u v = absurd v
  one-body the.skipped (Placed x y z k) b u v = absurd u
  one-body (the.placed c r) Skipped b u v = absurd u
  one-body (the.placed c r) (Placed x y z k) Skipped u v = absurd v
  one-body (the.placed c r) (Placed x y z k) (Placed x' y' z' k') u v = rw (u.address, u.count, u.area, u.fragments, v.address, v.count, v.area, v.fragments)

pub one-pair-step : (ended : Bool) (f : Form) (s : List ℕ) (p : ℕ) (a b : PairStep) {c ms es xs c₁ ms₁ es₁ xs₁ c₂ ms₂ es₂ xs₂ : List ℕ}
    → PairStepIs ended f s p a c ms es xs c₁ ms₁ es₁ xs₁ → PairStepIs ended f s p b c ms es xs c₂ ms₂ es₂ xs₂ → a ≡ b
unfolding body_of end_of
one-pair-step ended f s p a b {c} {ms} {es} {xs} {c₁} {ms₁} {es₁} {xs₁} {c₂} {ms₂} {es₂} {xs₂} u v = go a b u.says v.says
  where
    all : (x y : Body) (d e : ℕ) (on : Bool) {i j : ℕ} → x ≡ y → d ≡ e → i ≡ next_line s (next_line s p) → j ≡ next_line s (next_line s p) → of.Takes x d i on ≡ of.Takes y e j on
    all x y d e on h k u v = rw (h, k, u, v)

    go : (a b : PairStep) → StepSays (pair_at ended f s p) s p a c ms es xs c₁ ms₁ es₁ xs₁ → StepSays (pair_at ended f s p) s p b c ms es xs c₂ ms₂ es₂ xs₂ → a ≡ b
    go of.Ends of.Ends u v = refl
    go of.Ends (of.Takes y e j true) u v = absurd (let w = v.step in let z : ◌≡◌ {A = ℕ} 0 1 = cc in omega arith)
    go of.Ends (of.Takes y e j false) u v = absurd (let w = v.step in let z : ◌≡◌ {A = ℕ} 0 1 = cc in omega arith)
    go (of.Takes x d i true) of.Ends u v = absurd (let w = u.step in let z : ◌≡◌ {A = ℕ} 0 1 = cc in omega arith)
    go (of.Takes x d i false) of.Ends u v = absurd (let w = u.step in let z : ◌≡◌ {A = ℕ} 0 1 = cc in omega arith)
    go (of.Takes x d i true) (of.Takes y e j false) u v = absurd (let w = u.step in let k = v.step in let z : ◌≡◌ {A = ℕ} 0 1 = cc in omega arith)
    go (of.Takes x d i false) (of.Takes y e j true) u v = absurd (let w = u.step in let k = v.step in let z : ◌≡◌ {A = ℕ} 0 1 = cc in omega arith)
    go (of.Takes x d i true) (of.Takes y e j true) u v =
        let w = u.step ∙ sym v.step in
        let q : u.pair ≡ v.pair = ap (body_of u.pair) w in
        all x y d e true (one-body c ms es xs c₁ ms₁ es₁ xs₁ c₂ ms₂ es₂ xs₂ v.pair x y (rw q at u.body_is) v.body_is) (ap end_of w) u.behind v.behind
    go (of.Takes x d i false) (of.Takes y e j false) u v =
        let w = u.step ∙ sym v.step in
        let q : u.pair ≡ v.pair = ap (body_of u.pair) w in
        all x y d e false (one-body c ms es xs c₁ ms₁ es₁ xs₁ c₂ ms₂ es₂ xs₂ v.pair x y (rw q at u.body_is) v.body_is) (ap end_of w) u.behind v.behind
