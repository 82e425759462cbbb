-- No second answer fits the contract of placing: neither another answer nor another byte or number in a lent buffer.
-- Assumes nothing.
use Prim.Native.Nat.{ℕ, ◌*◌, ◌≤◌}
use mathlib.Core.Path.{◌≡◌, refl, ap, sym, ◌∙◌}
use mathlib.Core.Bool.{Bool, true, false, ◌&&◌}
use mathlib.Core.List.{List, ◌++◌}
use mathlib.Core.Option.{none, some}
use native.Mathlib.Omega.{arith}
use lib.Dec.{eqb}
use lib.ListN.{length, take, drop, take-append-drop}
use Rattle.format.specs.Lists.{pick}
use Rattle.format.specs.Outcome.{Outcome, fine}
use Rattle.format.specs.Placing.{State}
use Rattle.laws.specs.Rows.{fixups_in, state_of}
use Rattle.images.specs.Image.{moved}
use Rattle.place.specs.Pair.{PairPlaced, told, changes, fits}
use Rattle.sites.specs.Site.{line_fits, filled_fits}
use Rattle.homes.specs.declared.Home.{Home}
use Rattle.sites.specs.declared.Line.{Line}
use Rattle.sites.specs.declared.Filled.{Filled}
use Rattle.place.specs.declared.pair.Placed.{Placed}
use Rattle.place.specs.declared.pair.Placed.TheVariants.{Done, Stopped, Misfit}
use Rattle.cells.proofs.Both.{both_true}
use Rattle.grouped.proofs.Rows.{rows-fixed}
use Rattle.sites.proofs.Fitting.{counted}

-- what two answers and the buffers behind them have in common
pub record Same (r : Placed) (vs ms rows : List ℕ) (q : Placed) (vs' ms' rows' : List ℕ) : Type 0 where
  pub answer : r ≡ q
  pub values : vs ≡ vs'
  pub masks : ms ≡ ms'
  pub fixups : rows ≡ rows'

-- what an answer tells, with the buffers behind it, is told by no other
one_told : (r q : Placed) (vs ms rows vs' ms' rows' : List ℕ) → told r vs ms rows ≡ told q vs' ms' rows' → changes r ≡ changes q
one_told (Done j x) (Done k y) vs ms rows vs' ms' rows' e = refl
one_told (Done j x) (Stopped n p) vs ms rows vs' ms' rows' e = absurd (let z : ◌≡◌ {A = ℕ} 0 1 = cc in omega arith)
one_told (Done j x) Misfit vs ms rows vs' ms' rows' e = absurd (let z : ◌≡◌ {A = ℕ} 0 1 = cc in omega arith)
one_told (Stopped n p) (Done k y) vs ms rows vs' ms' rows' e = absurd (let z : ◌≡◌ {A = ℕ} 0 1 = cc in omega arith)
one_told (Stopped n p) (Stopped m o) vs ms rows vs' ms' rows' e = refl
one_told (Stopped n p) Misfit vs ms rows vs' ms' rows' e = refl
one_told Misfit (Done k y) vs ms rows vs' ms' rows' e = absurd (let z : ◌≡◌ {A = ℕ} 0 1 = cc in omega arith)
one_told Misfit (Stopped n p) vs ms rows vs' ms' rows' e = refl
one_told Misfit Misfit vs ms rows vs' ms' rows' e = refl

-- two answers that change nothing
one-refusal : (r q : Placed) (vs ms rows vs' ms' rows' : List ℕ) → changes r ≡ false → told r vs ms rows ≡ told q vs' ms' rows' → r ≡ q
one-refusal (Done j x) q vs ms rows vs' ms' rows' c e = absurd (let z : ◌≡◌ {A = ℕ} 0 1 = cc in omega arith)
one-refusal (Stopped n p) (Done k y) vs ms rows vs' ms' rows' c e = absurd (let z : ◌≡◌ {A = ℕ} 0 1 = cc in omega arith)
one-refusal (Stopped n p) (Stopped m o) vs ms rows vs' ms' rows' c e =
    let a : n ≡ m = cc in
    let b : p ≡ o = cc in
    rw (a, b)
one-refusal (Stopped n p) Misfit vs ms rows vs' ms' rows' c e = absurd (let z : ◌≡◌ {A = ℕ} 0 1 = cc in omega arith)
one-refusal Misfit (Done k y) vs ms rows vs' ms' rows' c e = absurd (let z : ◌≡◌ {A = ℕ} 0 1 = cc in omega arith)
one-refusal Misfit (Stopped m o) vs ms rows vs' ms' rows' c e = absurd (let z : ◌≡◌ {A = ℕ} 0 1 = cc in omega arith)
one-refusal Misfit Misfit vs ms rows vs' ms' rows' c e = refl

-- what is placed fits
done-fits : (fit : Bool) (x y : Outcome State) → some x ≡ pick fit (some y) none → fit ≡ true
done-fits true x y e = refl
done-fits false x y e = absurd (let z : ◌≡◌ {A = ℕ} 0 1 = cc in omega arith)

module _ (fit : Bool) (o : (radix end : ℕ) → Outcome State) (known : ℕ) (vs ms rows : List ℕ) (room : fit ≡ true → 9216 ≤ length rows)
    (vs₁ ms₁ rows₁ vs₂ ms₂ rows₂ : List ℕ) (l₁ : length rows₁ ≡ length rows) (l₂ : length rows₂ ≡ length rows) where
  both-done : (j x k y : ℕ) → PairPlaced fit o known vs ms rows (Done j x) vs₁ ms₁ rows₁ → PairPlaced fit o known vs ms rows (Done k y) vs₂ ms₂ rows₂ → Same (Done j x) vs₁ ms₁ rows₁ (Done k y) vs₂ ms₂ rows₂
  unfolding state_of
  both-done j x k y a b =
      let e : told (Done j x) vs₁ ms₁ rows₁ ≡ told (Done k y) vs₂ ms₂ rows₂ = a.says 0 0 ∙ sym (b.says 0 0) in
      let s : state_of vs₁ ms₁ rows₁ j ≡ state_of vs₂ ms₂ rows₂ k = cc in
      let f : fixups_in rows₁ j ≡ fixups_in rows₂ k = ap (λ (s : State). s.fixups) s in
      let h : 9216 ≤ length rows = room (done-fits fit (fine (state_of vs₁ ms₁ rows₁ j)) (o 0 0) (a.says 0 0)) in
      let n : (j ≡ k) × (take (9 * j) rows₁ ≡ take (9 * k) rows₂) = rows-fixed rows₁ rows₂ j k (let u = a.few in omega arith) (let u = b.few in omega arith) f in
      let same-masks : ms₁ ≡ ms₂ = ap (λ (s : State). s.masks) s in
      let bits : x ≡ y = a.bits ∙ (ap (λ (l : List ℕ). moved known ms l) same-masks ∙ sym b.bits) in
      record {
        answer = λ i. Done (n.0 i) (bits i);
        values = ap (λ (s : State). s.values) s;
        masks = same-masks;
        fixups =
            sym (take-append-drop (9 * j) rows₁)
            ∙ (ap (λ (l : List ℕ). l ++ drop (9 * j) rows₁) n.1
            ∙ (ap (λ (l : List ℕ). take (9 * k) rows₂ ++ l) (a.rest ∙ (ap (λ (x : ℕ). drop (9 * x) rows) n.0 ∙ sym b.rest))
            ∙ take-append-drop (9 * k) rows₂));
      }

  still : (r q : Placed) → changes r ≡ false → PairPlaced fit o known vs ms rows r vs₁ ms₁ rows₁ → PairPlaced fit o known vs ms rows q vs₂ ms₂ rows₂ → Same r vs₁ ms₁ rows₁ q vs₂ ms₂ rows₂
  still r q c a b =
      let e : told r vs₁ ms₁ rows₁ ≡ told q vs₂ ms₂ rows₂ = a.says 0 0 ∙ sym (b.says 0 0) in
      let x = a.same c in
      let y = b.same (sym (one_told r q vs₁ ms₁ rows₁ vs₂ ms₂ rows₂ e) ∙ c) in
      record {
        answer = one-refusal r q vs₁ ms₁ rows₁ vs₂ ms₂ rows₂ c e;
        values = x.0 ∙ sym y.0;
        masks = x.1.0 ∙ sym y.1.0;
        fixups = x.1.1 ∙ sym y.1.1;
      }

  placed-once : (r q : Placed) → PairPlaced fit o known vs ms rows r vs₁ ms₁ rows₁ → PairPlaced fit o known vs ms rows q vs₂ ms₂ rows₂ → Same r vs₁ ms₁ rows₁ q vs₂ ms₂ rows₂
  placed-once (Done j x) (Done k y) a b = both-done j x k y a b
  placed-once (Done j x) (Stopped n p) a b =
      let e = one_told (Done j x) (Stopped n p) vs₁ ms₁ rows₁ vs₂ ms₂ rows₂ (a.says 0 0 ∙ sym (b.says 0 0)) in
      absurd (let z : ◌≡◌ {A = ℕ} 0 1 = cc in omega arith)
  placed-once (Done j x) Misfit a b =
      let e = one_told (Done j x) Misfit vs₁ ms₁ rows₁ vs₂ ms₂ rows₂ (a.says 0 0 ∙ sym (b.says 0 0)) in
      absurd (let z : ◌≡◌ {A = ℕ} 0 1 = cc in omega arith)
  placed-once (Stopped n p) q a b = still (Stopped n p) q refl a b
  placed-once Misfit q a b = still Misfit q refl a b

-- rows that fit have room for the bound
fits-room : (l : Line) (h : Home) (bs : List ℕ) (n : Filled) (rows : List ℕ) → fits l h bs n rows ≡ true → 9216 ≤ length rows
unfolding fits
fits-room l h bs n rows e =
    let f = (both_true (eqb h.area l.area) _ e).1 in
    (counted l n (length bs) (length rows) (both_true (line_fits l (length bs) && filled_fits n (length rows)) _ f).0).space

-- `place_pair`: a lent buffer keeps its length
pub one-pair : (l : Line) (h : Home) (bs : List ℕ) (n : Filled) (o : (radix end : ℕ) → Outcome State) (known : ℕ) (vs masks rows : List ℕ) (r q : Placed) (vs₁ ms₁ rows₁ vs₂ ms₂ rows₂ : List ℕ)
    → length rows₁ ≡ length rows → length rows₂ ≡ length rows
    → PairPlaced (fits l h bs n rows) o known vs masks rows r vs₁ ms₁ rows₁ → PairPlaced (fits l h bs n rows) o known vs masks rows q vs₂ ms₂ rows₂
    → Same r vs₁ ms₁ rows₁ q vs₂ ms₂ rows₂
one-pair l h bs n o known vs masks rows r q vs₁ ms₁ rows₁ vs₂ ms₂ rows₂ l₁ l₂ a b =
    placed-once (fits l h bs n rows) o known vs masks rows (fits-room l h bs n rows) vs₁ ms₁ rows₁ vs₂ ms₂ rows₂ l₁ l₂ r q a b
