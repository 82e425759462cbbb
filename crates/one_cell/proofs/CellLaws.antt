-- What the proofs of one position's byte share: a law for each return, and the loop's invariant.
-- Assumes nothing.
use Prim.Native.Nat.{ℕ, zero, suc, ◌+◌, ◌-◌, ◌≤◌, ◌<◌}
use mathlib.Core.Path.{◌≡◌, refl, sym, ap, ◌∙◌}
use mathlib.Core.Bool.{Bool, true, false, ◌&&◌}
use mathlib.Core.List.{List}
use mathlib.Core.Option.{Option, none, some}
use native.Mathlib.Numerals.{add-one}
use native.Mathlib.Omega.{arith}
use mir.Val.{Fits}
use mir.Syntax.{w32}
use lib.Dec.{eqb}
use lib.ListN.{get_or}
use borrow.Author.Rules.{rules}
use borrow.Author.Tests.{lt-ltb, le-ltb}
use Rattle.format.specs.Lists.{pick}
use Rattle.format.specs.ModeStep.{Work}
use Rattle.format.specs.Outcome.{Outcome, fine}
use Rattle.laws.proofs.Areas.{one_at_most}
use Rattle.sites.specs.declared.Site.{Site}
use Rattle.sites.specs.Site.{Ready}
use Rattle.one_cell.specs.Cell.{Left, left_at, told, SoughtIn}
use Rattle.one_cell.specs.declared.Cell as code
use Rattle.one_cell.specs.declared.Cell.TheVariants.{Byte, Nothing}

-- `byte_of`
pub byte-is : (wv wm : List ℕ) {e i j v m : ℕ} → i ≡ e → v ≡ get_or wv i 0 → j ≡ e → m ≡ get_or wm j 0 → Byte v m ≡ Byte (get_or wv e 0) (get_or wm e 0)
byte-is wv wm ei ev ej em = rw (ev, em, ei, ej)

pub ruleset bytes = (rules, byte-is)

-- the entries up to e are passed, and the position is p
pub record Seeking (s : Site) (want : ℕ) (wv wm wk : List ℕ) (n e p : ℕ) : Type 0 where
  pub whole : n ≡ s.line.width + s.line.bytes
  pub inside : e ≤ n
  pub rest : left_at s.size (record { values = wv; masks = wm; keeps = wk }) (s.line.width + s.line.bytes) 0 s.line.address want
      ≡ left_at s.size (record { values = wv; masks = wm; keeps = wk }) (n - e) e p want
  pub ready : Ready s

pub seek-start : (s : Site) (want : ℕ) (wv wm wk : List ℕ) → Ready s → {n : ℕ} → n ≡ s.line.width + s.line.bytes → Seeking s want wv wm wk n 0 s.line.address
seek-start s want wv wm wk r {n} e = let z : n - 0 ≡ s.line.width + s.line.bytes = omega arith in record { whole = e; inside = omega arith; rest = rw z; ready = r }

left_out : (size : ℕ) (w : Work) (m e p want : ℕ) → size ≤ p → left_at size w m e p want ≡ none
unfolding left_at
left_out size w zero e p want h = refl
left_out size w (suc m) e p want h = rw (le-ltb p size h)

module _ {s : Site} {want : ℕ} {wv wm wk : List ℕ} {n e p : ℕ} (w : Seeking s want wv wm wk n e p) where
  pub seek-end : n ≤ e → SoughtIn s want wv wm wk Nothing
  unfolding left_at
  seek-end h = let z : n - e ≡ 0 = omega arith in record { says = λ place. ap (λ (o : Option Left). some (fine o)) (sym (w.rest ∙ rw z)) }

  pub seek-out : s.size ≤ p → SoughtIn s want wv wm wk Nothing
  seek-out l = record {
    says = λ place. ap (λ (o : Option Left). some (fine o)) (sym (w.rest ∙ left_out s.size (record { values = wv; masks = wm; keeps = wk }) (n - e) e p want l));
  }

  pub seek-narrow : e < n → Fits w32 (e + 1)
  seek-narrow h = record { fits = omega (arith, w.whole, w.ready.line.address, w.ready.line.content) }

  module _ (l : p < s.size) where
    pub seek-grows : {y : ℕ} → y ≡ pick (eqb (get_or wk e 0) 1) 1 0 → Fits w32 (p + y)
    seek-grows g = record { fits = omega (arith, w.ready.inside, g, one_at_most (eqb (get_or wk e 0) 1)) }

    module _ (h : e < n) {t : Bool} (et : t ≡ (eqb (get_or wk e 0) 1 && eqb p want)) where
      one_more : left_at s.size (record { values = wv; masks = wm; keeps = wk }) (n - e) e p want
          ≡ pick t (some (record { value = get_or wv e 0; mask = get_or wm e 0 })) (left_at s.size (record { values = wv; masks = wm; keeps = wk }) (n - suc e) (suc e) (p + pick (eqb (get_or wk e 0) 1) 1 0) want)
      unfolding left_at
      one_more =
          let z : n - e ≡ suc (n - suc e) = omega arith in
          ap (λ (k : ℕ). left_at s.size (record { values = wv; masks = wm; keeps = wk }) k e p want) z ∙ rw (lt-ltb p s.size l, et)

      pub seek-here : t ≡ true → {r : code.Cell} → r ≡ Byte (get_or wv e 0) (get_or wm e 0) → SoughtIn s want wv wm wk r
      seek-here f g = record { says = λ place. rw g (ap (λ (o : Option Left). some (fine o)) (sym (w.rest ∙ (one_more ∙ rw f)))) }

      pub seek-more : t ≡ false → {y : ℕ} → y ≡ pick (eqb (get_or wk e 0) 1) 1 0 → Seeking s want wv wm wk n (e + 1) (p + y)
      seek-more f g = record {
        whole = w.whole;
        inside = omega arith;
        rest = w.rest ∙ (one_more ∙ rw (f, add-one, g));
        ready = w.ready;
      }

pub ruleset seeking = (rules, seek-start, seek-end, seek-out, seek-narrow, seek-grows, seek-here, seek-more)
