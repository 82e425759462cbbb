-- From the tests of the code to the entries that are covered and kept.
-- Assumes nothing.
use Prim.Native.Nat.{ℕ, zero, suc, ◌+◌, ◌-◌, ◌/◌, ◌%◌, ◌≤◌, ◌<◌}
use mathlib.Core.Path.{◌≡◌, refl, sym, ap, ◌∙◌}
use mathlib.Core.Bool.{Bool, true, false, ◌&&◌, false≢true}
use mathlib.Core.List.{List}
use native.Mathlib.Omega.{arith}
use native.Mathlib.Numerals.{add-one}
use mir.Val.{Fits}
use mir.Syntax.{w64}
use lib.Dec.{eqb, leb, ltb, lit≤}
use lib.ListN.{get_or}
use borrow.Author.Rules.{rules}
use borrow.Author.Tests.{le-leb, lt-leb}
use Rattle.format.specs.Lists.{pick}
use Rattle.format.specs.Mode.{Addr11, Addr16, Addr19, Addr24, Byte, Class, Other, bit, class_of, on_site, size_of, touched, touched_of}
use Rattle.covering.specs.Covering.{covered, entry_of, in_content, kept_from, kept_with}

-- ------------------------------------------------------------------ few entries are touched and kept

few-touched : (c : Class) (b : Bool) → touched_of c b ≤ 4
few-touched Addr19 b = lit≤ tt
few-touched Addr11 b = lit≤ tt
few-touched Addr24 b = lit≤ tt
few-touched Addr16 b = lit≤ tt
few-touched Byte b = lit≤ tt
few-touched Other true = lit≤ tt
few-touched Other false = lit≤ tt

few-kept : (c : Class) → size_of c ≤ 4
few-kept Addr19 = lit≤ tt
few-kept Addr11 = lit≤ tt
few-kept Addr24 = lit≤ tt
few-kept Addr16 = lit≤ tt
few-kept Byte = lit≤ tt
few-kept Other = lit≤ tt

pub touched-few : (m : ℕ) → touched m ≤ 4
unfolding touched
touched-few m = few-touched (class_of m) (bit 8 m)

pub kept-few : (m : ℕ) → on_site m ≤ 4
unfolding on_site
kept-few m = few-kept (class_of m)

-- ------------------------------------------------------------------ `touched_by`, `covers`

pub touched-is : (m : ℕ) {c : Class} → c ≡ class_of m → {n : ℕ} → n ≡ touched_of c (eqb (m / 256 % 2) 1) → n ≡ touched m
unfolding touched bit
touched-is m ec en = rw ec at en

pub cover-fits : (m en : ℕ) {f t : ℕ} → f ≡ en → en < 4294967296 → t ≡ touched m → Fits w64 (f + t)
cover-fits m en p h q = record { fits = omega (arith, touched-few m) }

pub ruleset covers = (rules, touched-is, cover-fits)

-- ------------------------------------------------------------------ `kept_with`

pub kept-fits : (m en : ℕ) {f s t : ℕ} → f ≡ en → en < 4294967296 → s ≡ on_site m → t ≡ s → Fits w64 (f + t)
kept-fits m en p h q k = record { fits = omega (arith, kept-few m) }

pub ruleset keeps = (rules, kept-fits)

-- ------------------------------------------------------------------ `is_kept`

pub record Keeping (a : ℕ) (ms es : List ℕ) (e n : ℕ) (k₀ : Bool) (i : ℕ) (k : Bool) : Type 0 where
  pub within : i ≤ n
  pub rest : kept_from a ms es e 0 n k₀ ≡ kept_from a ms es e i (n - i) k

pub keeping_start : (a : ℕ) (ms es : List ℕ) (e n : ℕ) {k₀ k : Bool} → k ≡ k₀ → Keeping a ms es e n k₀ 0 k
keeping_start a ms es e n q = record { within = omega arith; rest = let z : n - 0 ≡ n = omega arith in rw (z, q) }

module _ {a : ℕ} {ms es : List ℕ} {e n i : ℕ} {k₀ k : Bool} (w : Keeping a ms es e n k₀ i k) where
  pub keeping-end : n ≤ i → k ≡ kept_from a ms es e 0 n k₀
  unfolding kept_from
  keeping-end h = let z : n - i ≡ 0 = omega arith in sym (w.rest ∙ rw z)

  pub keeping-more : i < n → {m en : ℕ} → m ≡ get_or ms i 0 → en ≡ get_or es i 0 → {r : Bool} → r ≡ kept_with a m en e k → Keeping a ms es e n k₀ (i + 1) r
  unfolding kept_from
  keeping-more h em ee er =
      let z : n - i ≡ suc (n - suc i) = omega arith in
      record { within = omega arith; rest = rw add-one (w.rest ∙ (ap (λ (x : ℕ). kept_from a ms es e i x k) z ∙ rw (er, em, ee))) }

pub ruleset keeping = (rules, keeping_start, keeping-end, keeping-more)

-- ------------------------------------------------------------------ `entry_of`

pub record Seeking (a : ℕ) (ms es : List ℕ) (n m behind e left : ℕ) : Type 0 where
  pub within : e ≤ m
  pub rest : entry_of a ms es n m 0 m behind ≡ entry_of a ms es n m e (m - e) left

pub seeking-start : (a : ℕ) (ms es : List ℕ) (n m behind : ℕ) → Seeking a ms es n m behind 0 behind
seeking-start a ms es n m behind = record { within = omega arith; rest = let z : m - 0 ≡ m = omega arith in rw z }

module _ {a : ℕ} {ms es : List ℕ} {n m behind e left : ℕ} (w : Seeking a ms es n m behind e left) where
  pub seeking-end : m ≤ e → m ≡ entry_of a ms es n m 0 m behind
  unfolding entry_of
  seeking-end h = let z : m - e ≡ 0 = omega arith in let q : m ≡ e = omega (arith, w.within) in q ∙ sym (w.rest ∙ rw z)

  module _ (h : e < m) {r : Bool} (er : r ≡ kept_from a ms es e 0 n (in_content a m e)) where
    ahead : entry_of a ms es n m 0 m behind ≡ pick r (pick (eqb left 0) e (entry_of a ms es n m (suc e) (m - suc e) (left - 1))) (entry_of a ms es n m (suc e) (m - suc e) left)
    unfolding entry_of
    ahead = let z : m - e ≡ suc (m - suc e) = omega arith in w.rest ∙ (ap (λ (x : ℕ). entry_of a ms es n m e x left) z ∙ rw er)

    pub seeking-here : {x : Bool} → x ≡ (r && eqb left 0) → x ≡ true → e ≡ entry_of a ms es n m 0 m behind
    seeking-here {x} ex t = sym (go r (eqb left 0) (sym ex ∙ t) ahead)
      where
        go : (b z : Bool) → b && z ≡ true → entry_of a ms es n m 0 m behind ≡ pick b (pick z e (entry_of a ms es n m (suc e) (m - suc e) (left - 1))) (entry_of a ms es n m (suc e) (m - suc e) left)
            → entry_of a ms es n m 0 m behind ≡ e
        go true true f g = g
        go true false f g = absurd (false≢true f)
        go false z f g = absurd (false≢true f)

    pub seeking-on : {x : Bool} → x ≡ (r && eqb left 0) → x ≡ false → {y : ℕ} → y ≡ pick r (left - 1) left → Seeking a ms es n m behind (e + 1) y
    seeking-on {x} ex t ey = record { within = omega arith; rest = rw (add-one, ey) (go r (eqb left 0) (sym ex ∙ t) ahead) }
      where
        go : (b z : Bool) → b && z ≡ false → entry_of a ms es n m 0 m behind ≡ pick b (pick z e (entry_of a ms es n m (suc e) (m - suc e) (left - 1))) (entry_of a ms es n m (suc e) (m - suc e) left)
            → entry_of a ms es n m 0 m behind ≡ entry_of a ms es n m (suc e) (m - suc e) (pick b (left - 1) left)
        go true true f g = absurd (false≢true (sym f))
        go true false f g = g
        go false z f g = g

pub ruleset seeking = (rules, seeking-start, seeking-end, seeking-here, seeking-on)
