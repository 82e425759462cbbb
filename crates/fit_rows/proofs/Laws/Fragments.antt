-- The conditions on fragments: each by itself, side by side, and those of all pairs.
-- Assumes nothing.
use Prim.Native.Nat.{ℕ, suc, ◌+◌, ◌-◌, ◌*◌, ◌≤◌, ◌<◌}
use mathlib.Core.Path.{◌≡◌, ap, sym, ◌∙◌}
use mathlib.Core.Bool.{Bool, true, false, not, ◌&&◌}
use mathlib.Core.List.{List}
use native.Mathlib.Omega.{arith}
use native.Mathlib.Nat.{add-zero}
use native.Mathlib.Numerals.{add-one}
use mir.Val.{Fits}
use mir.Syntax.{w32}
use lib.ListN.{get_or}
use borrow.Author.Rules.{rules}
use Rattle.format.specs.Mode.{Class, Addr19, Addr11, Addr24, Addr16, Byte, Other, bit, class_of, touched, touched_of}
use Rattle.laws.specs.Rows.{from, fragment}
use Rattle.mode.specs.Class.{told_class}
use Rattle.mode.specs.declared.class.JumpType.{JumpType}
use Rattle.record_parts.specs.Parts.{fragment_from}
use Rattle.laid.specs.Fit.{fit_fragment, beside, beside_all, fit_fragments}
use Rattle.fit_rows.specs.Fits.{form_by, body_at, bodies_from}
use Rattle.fit_rows.proofs.Laws.Tests.{is_false, is_true}

-- ------------------------------------------------------------------ `touches`

touched-low : (c : Class) (t : Bool) → touched_of c t ≤ 4
touched-low Addr19 t = omega arith
touched-low Addr11 t = omega arith
touched-low Addr24 t = omega arith
touched-low Addr16 t = omega arith
touched-low Byte t = omega arith
touched-low Other true = omega arith
touched-low Other false = omega arith

module _ (mode : ℕ) (j : JumpType) (ej : told_class j ≡ class_of mode) {b : Bool} (eb : b ≡ bit 8 mode) {t : ℕ} (et : t ≡ touched_of (told_class j) b) where
  pub touched-fits : Fits w32 t
  touched-fits = record { fits = omega (arith, touched-low (told_class j) b) }

  pub touched-is : t ≡ touched mode
  unfolding touched
  touched-is = et ∙ rw (ej, eb)

pub ruleset touching = (rules, touched-fits, touched-is)

-- ------------------------------------------------------------------ `beside_all`

pub record Besiding (rows : List ℕ) (mode entry k n i : ℕ) : Type 0 where
  pub within : i ≤ n
  pub rest : (index : ℕ) → beside_all (fragment mode entry index) (from (fragment_from rows) k n) ≡ beside_all (fragment mode entry index) (from (fragment_from rows) (k + i) (n - i))

pub beside-start : (rows : List ℕ) (mode entry k n : ℕ) → Besiding rows mode entry k n 0
beside-start rows mode entry k n = let z : n - 0 ≡ n = omega arith in record { within = omega arith; rest = λ index. rw (z, add-zero) }

module _ {rows : List ℕ} {mode entry k n i : ℕ} (g : Besiding rows mode entry k n i) where
  pub beside_end : n ≤ i → (index : ℕ) → true ≡ beside_all (fragment mode entry index) (from (fragment_from rows) k n)
  unfolding beside_all from
  beside_end h index = let z : n - i ≡ 0 = omega arith in sym (g.rest index ∙ rw z)

  module _ (h : i < n) {m f : ℕ} (em : m ≡ get_or rows (3 * (k + i)) 0) (ef : f ≡ get_or rows (3 * (k + i) + 1) 0) {b : Bool} (eb : (x y : ℕ) → b ≡ beside (fragment mode entry x) (fragment m f y)) where
    step : (index : ℕ) → beside_all (fragment mode entry index) (from (fragment_from rows) k n) ≡ (b && beside_all (fragment mode entry index) (from (fragment_from rows) (k + (i + 1)) (n - (i + 1))))
    unfolding beside_all from fragment_from
    step index =
        let z : n - i ≡ suc (n - (i + 1)) = omega arith in
        let y : k + (i + 1) ≡ suc (k + i) = omega arith in
        g.rest index ∙ (ap (λ (m : ℕ). beside_all (fragment mode entry index) (from (fragment_from rows) (k + i) m)) z ∙ rw (eb index (get_or rows (3 * (k + i) + 2) 0), em, ef, y))

    pub beside-more : not b ≡ false → Besiding rows mode entry k n (i + 1)
    beside-more d = record { within = omega arith; rest = λ index. step index ∙ rw (is_true b d) }

    pub beside_none : not b ≡ true → (index : ℕ) → false ≡ beside_all (fragment mode entry index) (from (fragment_from rows) k n)
    beside_none d index = sym (step index ∙ rw (is_false b d))

pub ruleset beside-rows = (rules, beside-start, beside_end, beside-more, beside_none)

-- ------------------------------------------------------------------ `fit_fragments`

pub record Fitting (rows : List ℕ) (k n width i : ℕ) : Type 0 where
  pub within : i ≤ n
  pub rest : fit_fragments (form_by width) (from (fragment_from rows) k n) ≡ fit_fragments (form_by width) (from (fragment_from rows) (k + i) (n - i))

pub fitting-start : (rows : List ℕ) (k n width : ℕ) → Fitting rows k n width 0
fitting-start rows k n width = let z : n - 0 ≡ n = omega arith in record { within = omega arith; rest = rw (z, add-zero) }

module _ {rows : List ℕ} {k n width i : ℕ} (g : Fitting rows k n width i) where
  pub fitting-end : n ≤ i → true ≡ fit_fragments (form_by width) (from (fragment_from rows) k n)
  unfolding fit_fragments from
  fitting-end h = let z : n - i ≡ 0 = omega arith in sym (g.rest ∙ rw z)

  module _ (h : i < n) {mode entry : ℕ} (em : mode ≡ get_or rows (3 * (k + i)) 0) (ee : entry ≡ get_or rows (3 * (k + i) + 1) 0) {a : Bool}
      (ea : (index : ℕ) → a ≡ fit_fragment (form_by width) (fragment mode entry index)) where
    abbrev index : ℕ
    index = get_or rows (3 * (k + i) + 2) 0

    step-on : fit_fragments (form_by width) (from (fragment_from rows) k n)
        ≡ (fit_fragment (form_by width) (fragment mode entry index) && (beside_all (fragment mode entry index) (from (fragment_from rows) (k + i + 1) (n - i - 1)) && fit_fragments (form_by width) (from (fragment_from rows) (k + (i + 1)) (n - (i + 1)))))
    unfolding fit_fragments from fragment_from
    step-on =
        let z : n - i ≡ suc (n - (i + 1)) = omega arith in
        let y : k + (i + 1) ≡ suc (k + i) = omega arith in
        let x : k + i + 1 ≡ suc (k + i) = omega arith in
        let v : n - i - 1 ≡ n - (i + 1) = omega arith in
        g.rest ∙ (ap (λ (m : ℕ). fit_fragments (form_by width) (from (fragment_from rows) (k + i) m)) z ∙ rw (em, ee, y, x, v))

    pub fitting-not : not a ≡ true → false ≡ fit_fragments (form_by width) (from (fragment_from rows) k n)
    fitting-not d = sym (step-on ∙ rw (← ea index, is_false a d))

    module _ (d : not a ≡ false) {b : Bool} (eb : (index : ℕ) → b ≡ beside_all (fragment mode entry index) (from (fragment_from rows) (k + i + 1) (n - i - 1))) where
      pub fitting-common : not b ≡ true → false ≡ fit_fragments (form_by width) (from (fragment_from rows) k n)
      fitting-common f = sym (step-on ∙ rw (← ea index, is_true a d, ← eb index, is_false b f))

      pub fitting-more : not b ≡ false → Fitting rows k n width (i + 1)
      fitting-more f = record { within = omega arith; rest = step-on ∙ rw (← ea index, is_true a d, ← eb index, is_true b f) }

pub ruleset fitting = (rules, fitting-start, fitting-end, fitting-not, fitting-common, fitting-more)

-- ------------------------------------------------------------------ `fit_body`, `fit_bodies`

pub body_is : (pairs rows : List ℕ) (k width : ℕ) {a a' b b' : ℕ} → a ≡ get_or pairs (7 * k + 5) 0 → a' ≡ a → b ≡ get_or pairs (7 * k + 6) 0 → b' ≡ b → {c : Bool}
    → c ≡ fit_fragments (form_by width) (from (fragment_from rows) a' b') → c ≡ body_at width pairs rows k
unfolding body_at
body_is pairs rows k width ea ea' eb eb' ec = ec ∙ rw (ea', ea, eb', eb)

pub ruleset body = (rules, body_is)

pub record Bodying (pairs rows : List ℕ) (n width k : ℕ) : Type 0 where
  pub within : k ≤ n
  pub rest : bodies_from width pairs rows 0 n ≡ bodies_from width pairs rows k (n - k)

pub bodying-start : (pairs rows : List ℕ) (n width : ℕ) → Bodying pairs rows n width 0
bodying-start pairs rows n width = let z : n - 0 ≡ n = omega arith in record { within = omega arith; rest = rw z }

module _ {pairs rows : List ℕ} {n width k : ℕ} (g : Bodying pairs rows n width k) where
  pub bodying-end : n ≤ k → true ≡ bodies_from width pairs rows 0 n
  unfolding bodies_from
  bodying-end h = let z : n - k ≡ 0 = omega arith in sym (g.rest ∙ rw z)

  module _ (h : k < n) {c : Bool} (ec : c ≡ body_at width pairs rows k) where
    one-body : bodies_from width pairs rows 0 n ≡ (c && bodies_from width pairs rows (k + 1) (n - (k + 1)))
    unfolding bodies_from
    one-body =
        let z : n - k ≡ suc (n - (k + 1)) = omega arith in
        g.rest ∙ (ap (λ (m : ℕ). bodies_from width pairs rows k m) z ∙ rw (ec, add-one k))

    pub bodying-not : not c ≡ true → false ≡ bodies_from width pairs rows 0 n
    bodying-not d = sym (one-body ∙ rw (is_false c d))

    pub bodying-more : not c ≡ false → Bodying pairs rows n width (k + 1)
    bodying-more d = record { within = omega arith; rest = one-body ∙ rw (is_true c d) }

pub ruleset bodies = (rules, bodying-start, bodying-end, bodying-not, bodying-more)
