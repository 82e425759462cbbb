-- The halt of the line behind a T line: one law for each return, and the loop over the fragments.
-- Assumes nothing.
use Prim.Native.Nat.{ℕ, suc, zero, ◌+◌, ◌-◌, ◌<◌, ◌≤◌}
use mathlib.Core.Path.{◌≡◌, sym, ap, ◌∙◌}
use mathlib.Core.Bool.{Bool}
use mathlib.Core.List.{List}
use native.Mathlib.Omega.{arith}
use lib.ListN.{length}
use borrow.Author.Rules.{rules}
use Rattle.std.specs.Prelude.{Result, Ok, Err}
use Rattle.format.specs.Got.{Got, Reader, again, is, isnt, many}
use Rattle.format.specs.Header.{Form}
use Rattle.format.specs.Pairs.{area_part, fragment}
use Rattle.format.specs.Pairs as the
use Rattle.numbers.specs.Told.{told, code}
use Rattle.numbers.specs.declared.Halt as reader
use Rattle.numbers.specs.declared.Read.{Read}
use Rattle.fragments.specs.Fragments.{told_fragment}
use Rattle.usual_fragment.specs.Usual.{seen}
use Rattle.usual_fragment.specs.declared.Fragment.{Fragment}
use Rattle.halt.specs.Halt.{fragment_due, why}
use Rattle.line_halt.proofs.Laws.GroupOne.{halt}

-- the item that is due behind a list of them: k turns are left, at p
pub record Due {B : Type 0} (item : Reader B) (s : List ℕ) (k₀ p₀ k p : ℕ) : Type 0 where
  pub same : item s (many k₀ item s p₀).end ≡ item s (many k item s p).end

module _ {B : Type 0} {item : Reader B} {s : List ℕ} {k₀ p₀ k p : ℕ} (w : Due item s k₀ p₀ k p) where
  -- no turn is left
  due-out : k ≤ 0 → item s (many k₀ item s p₀).end ≡ item s p
  unfolding many
  due-out h = let e : k ≡ 0 = omega arith in w.same ∙ ap (λ (j : ℕ). item s (many j item s p).end) e

  -- one item more
  one_more : (j : ℕ) {a : B} {q : ℕ} → item s p ≡ is a q → item s (many (suc j) item s p).end ≡ item s (many j item s q).end
  unfolding many
  one_more j e = rw e

  due-more : {a : B} {q : ℕ} → 0 < k → item s p ≡ is a q → Due item s k₀ p₀ (k - 1) q
  due-more h e =
      let n : k ≡ suc (k - 1) = omega arith in
      record { same = w.same ∙ ap (λ (j : ℕ). item s (many j item s p).end) n ∙ one_more (k - 1) e }

  -- the item does not read: it is the one
  no_more : (j : ℕ) {r x : ℕ} → item s p ≡ isnt r x → item s (many j item s p).end ≡ isnt r x
  unfolding many
  no_more zero e = e
  no_more (suc j) e = ap (λ (g : Got B). item s (again g (λ next. many j item s next) p).end) e ∙ e

  due-stop : {r x : ℕ} → item s p ≡ isnt r x → item s (many k₀ item s p₀).end ≡ isnt r x
  due-stop e = w.same ∙ no_more k e

-- `next_due`: i turns are done
pub record Turned (radix : ℕ) (big : Bool) (s : List ℕ) (p₀ i p : ℕ) : Type 0 where
  pub due : Due (fragment radix big) s (length s) p₀ (length s - i) p

pub turned-start : (radix : ℕ) (big : Bool) (s : List ℕ) (p : ℕ) → Turned radix big s p 0 p
turned-start radix big s p = let z : length s ≡ length s - 0 = omega arith in record { due = record { same = ap (λ (j : ℕ). fragment radix big s (many j (fragment radix big) s p).end) z } }

module _ {radix : ℕ} {big : Bool} {s : List ℕ} {p₀ i p : ℕ} (w : Turned radix big s p₀ i p) {b : Result (Read Fragment) reader.Halt} (e : told_fragment b ≡ fragment radix big s p) where
  pub turned-more : i < length s → {r : Read Fragment} → b ≡ Ok r → Turned radix big s p₀ (i + 1) r.next
  turned-more h {r} g =
      let f : fragment radix big s p ≡ is (seen r.value) r.next = rw (← e, g) in
      let z : length s - i - 1 ≡ length s - (i + 1) = omega arith in
      record { due = rw z at (due-more w.due (omega arith) f) }

  pub turned-stop : {h : reader.Halt} → b ≡ Err h → told_fragment (Err h) ≡ fragment radix big s (many (length s) (fragment radix big) s p₀).end
  turned-stop {h} g =
      let f : fragment radix big s p ≡ isnt (code h.reason) h.at = rw (← e, g) in
      sym (due-stop w.due f)

pub turned-out : {radix : ℕ} {big : Bool} {s : List ℕ} {p₀ i p : ℕ} → Turned radix big s p₀ i p → length s ≤ i → {g : Got the.Fragment} → g ≡ fragment radix big s p → g ≡ fragment radix big s (many (length s) (fragment radix big) s p₀).end
turned-out w l e = e ∙ sym (due-out w.due (omega arith))

-- `fragment_due`
module _ (f : Form) (s : List ℕ) {m : Result (Read ℕ) reader.Halt} (e : told m ≡ area_part f s 0) where
  pub due-1 : {h : reader.Halt} → m ≡ Err h → told_fragment (Err h) ≡ fragment_due f s 0
  unfolding fragment_due
  due-1 g = rw (← e, g)

  pub due-2 : {r : Read ℕ} → m ≡ Ok r → {x : Got the.Fragment} → x ≡ fragment f.radix f.big s (many (length s) (fragment f.radix f.big) s r.next).end → x ≡ fragment_due f s 0
  unfolding fragment_due
  due-2 g h = rw (← e, g) h

-- `relocation_halt`
module _ (f : Form) (s : List ℕ) {b : Result (Read Fragment) reader.Halt} (e : told_fragment b ≡ fragment_due f s 0) where
  pub relocation-1 : {h : reader.Halt} → b ≡ Err h → halt (code h.reason) h.at ≡ why (fragment_due f s 0)
  relocation-1 g = rw (← e, g)

  pub relocation-2 : {r : Read Fragment} → b ≡ Ok r → halt 4 r.next ≡ why (fragment_due f s 0)
  relocation-2 g = rw (← e, g)

pub ruleset fragments = (rules, turned-start, turned-more, turned-stop, turned-out)

pub ruleset relocations = (rules, due-1, due-2, relocation-1, relocation-2)
