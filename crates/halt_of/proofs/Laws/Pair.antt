-- The halt of a T line and of the line behind it: one law for each return.
-- Assumes nothing.
use Prim.Native.Nat.{ℕ, ◌+◌, ◌<◌, ◌≤◌, ◌^◌}
use mathlib.Core.Path.{◌≡◌, refl, sym, ap, ◌∙◌}
use mathlib.Core.List.{List}
use native.Mathlib.Omega.{arith}
use lib.ListN.{length}
use lib.Dec.{eqb}
use mir.Val.{Fits}
use mir.Syntax.{w64}
use borrow.Author.Rules.{rules}
use borrow.Author.Tests.{eq-eqb, ne_eqb}
use Rattle.format.specs.Lists.{pick}
use Rattle.format.specs.Got.{Got, is, isnt, shifted, then}
use Rattle.format.specs.Lines.{width}
use Rattle.format.specs.Header.{Form}
use Rattle.format.specs.Pairs.{content_line, whole_content}
use Rattle.format.specs.Pairs as the
use Rattle.pair_line.specs.Pairs.{Contents, Sized, counted}
use Rattle.std.specs.Prelude.{Result, Ok, Err}
use Rattle.numbers.specs.Told as numbers
use Rattle.numbers.specs.declared.Halt as reader
use Rattle.pair_line.specs.declared.content.Content.{Content}
use Rattle.halt.specs.Halt.{Halt, fragment_due, pair_halt, why}
use Rattle.halt.proofs.Spans.{Span}
use Rattle.halt.proofs.LineSpans.{fragment-due-sound}
use Rattle.line_halt.specs.Told.{told_halt}
use Rattle.line_halt.specs.declared.Halt as code
use Rattle.line_halt.proofs.Laws.GroupOne.{halt}
use Rattle.halt_of.specs.Told.{line_with}

-- `pair_halt`
halts : (m : Got the.Content) (x p : ℕ) → counted m ≡ isnt x p → m ≡ isnt x p
halts (is c u) x p e = let z : ◌≡◌ {A = ℕ} 0 1 = cc in let y : ⊥ = omega arith in absurd y
halts (isnt r q) x p e = let a : r ≡ x = cc in let b : q ≡ p = cc in rw (a, b)

reads : (m : Got the.Content) (z : Sized) (u : ℕ) → counted m ≡ is z u → (next : ℕ → Got the.Fragment) → then m (λ c used. next used) ≡ next u
reads (is c v) z u e next = let a : v ≡ u = cc in rw a
reads (isnt r q) z u e next = let z : ◌≡◌ {A = ℕ} 0 1 = cc in let y : ⊥ = omega arith in absurd y

shift : (n : ℕ) (g : Got the.Fragment) → why (shifted n (λ (x : the.Fragment). x) g) ≡ halt (why g).reason (n + (why g).place)
shift n (is a u) = refl
shift n (isnt r p) = refl

module _ (f : Form) (t r : List ℕ) (n : ℕ) {y : Result Content reader.Halt} {room left : List ℕ} (e : Contents (whole_content f t) (content_line f t 0) room y left) where
  pub pair-1 : {k : reader.Halt} → y ≡ Err k → {x : ℕ} → x ≡ numbers.code k.reason → halt x k.at ≡ pair_halt f (line_with t n) (line_with r 0)
  unfolding pair_halt
  pair-1 {k} g i = rw (i, halts (whole_content f t) (numbers.code k.reason) k.at (rw g at (sym e.answered)))

  module _ {k : Content} (g : y ≡ Ok k) where
    whole : (next : ℕ → Got the.Fragment) → then (whole_content f t) (λ c used. next used) ≡ next k.used
    whole next = reads (whole_content f t) _ k.used (rw g at (sym e.answered)) next

    pub pair-2 : n ≡ 0 → halt 4 k.used ≡ pair_halt f (line_with t n) (line_with r 0)
    unfolding pair_halt
    pair-2 z =
        sym (ap (λ (x : Got the.Fragment). why x) (whole (λ used. pick (eqb n 0) (isnt 4 used) (shifted (width (line_with t n)) (λ (x : the.Fragment). x) (fragment_due f r 0))))
        ∙ rw (eq-eqb n 0 z))

    pub pair-3 : (n ≡ 0 → ⊥) → {h : code.Halt} → told_halt h ≡ why (fragment_due f r 0) → halt h.reason (length t + n + h.at) ≡ pair_halt f (line_with t n) (line_with r 0)
    unfolding pair_halt width
    pair-3 z {h} i =
        sym (ap (λ (x : Got the.Fragment). why x) (whole (λ used. pick (eqb n 0) (isnt 4 used) (shifted (width (line_with t n)) (λ (x : the.Fragment). x) (fragment_due f r 0))))
        ∙ rw (ne_eqb n 0 z) (shift (length t + n) (fragment_due f r 0)
        ∙ ap (λ (x : Halt). halt x.reason (length t + n + x.place)) (sym i)))

-- the place lies in the second line
due_in : (s : List ℕ) (g : Got the.Fragment) → Span s 0 g → (why g).place ≤ length s
due_in s (is a q) w = w.1
due_in s (isnt r p) w = w.inside

module _ (f : Form) (t r : List ℕ) (n : ℕ) {h : code.Halt} (i : told_halt h ≡ why (fragment_due f r 0)) where
  pub pair_fits : length t + n + length r < 2 ^ 64 → Fits w64 (length t + n + h.at)
  pair_fits k =
      let e : h.at ≡ (why (fragment_due f r 0)).place = ap (λ (x : Halt). x.place) i in
      record { fits = omega (arith, e, due_in r (fragment_due f r 0) (fragment-due-sound f r 0 (omega arith))) }

pub ruleset pairs = (rules, pair-1, pair-2, pair-3, pair_fits)
