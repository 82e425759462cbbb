-- What the proofs of the walk for the images share: a law for each return, and the loop's invariant.
-- Assumes nothing.
use Prim.Native.Nat.{ℕ, zero, suc, ◌+◌, ◌-◌, ◌≤◌, ◌<◌}
use mathlib.Core.Path.{◌≡◌, refl, sym, ap, ◌∙◌}
use mathlib.Core.Bool.{Bool, true, false, not}
use mathlib.Core.List.{List}
use native.Mathlib.Numerals.{add-one}
use native.Mathlib.Omega.{arith}
use mir.Val.{Fits}
use mir.Syntax.{w32, w64}
use lib.Dec.{eqb}
use lib.ListN.{length, get_or, set}
use borrow.Author.Rules.{rules}
use borrow.Author.Tests.{lt-ltb, le-ltb, eq-eqb, ne_eqb, not-true, not-false}
use Rattle.sites.specs.declared.Site.{Site}
use Rattle.laws.proofs.Areas.{one_at_most}
use Rattle.sites.specs.Site.{Ready, is_ready}
use Rattle.sites.proofs.Fitting.{ready_by}
use Rattle.images.specs.Image.{image_walk, image_of, Wrote, Imaged, Written}
use Rattle.image_byte.specs.Count.{Counted, Marked}
use Rattle.image_byte.proofs.CountLaws.{counted_none, counted-more, counted-idle, marked-on}
use Rattle.images.specs.declared.image.Entered.{Entered}
use Rattle.images.proofs.CountLaws.{known-then, known-still}

-- `write_entry`
module _ (wv wm wk vs ms : List ℕ) (start p count : ℕ) {e i : ℕ} (ei : i ≡ e) where
  pub wrote : get_or wk i 0 ≡ 1 → 8 ≤ count → {q at : ℕ} → q ≡ p → at ≡ start + q → {vs' ms' : List ℕ} → vs' ≡ set vs at (get_or wv i 0) → {x : ℕ} → Marked at (get_or wm i 0) 8 ms x ms'
      → Wrote (get_or wk e 0) (start + p) (get_or wv e 0) (get_or wm e 0) count vs ms (record { grows = 1; count = (count + x) - 8 }) vs' ms'
  wrote h l eq ea p₁ d =
      let b : eqb (get_or wk e 0) 1 ≡ true = rw (← ei) (eq-eqb (get_or wk i 0) 1 h) in
      record { grows = rw b; values = rw (b, ← eq, ← ea, ← ei) p₁; masks = rw (b, ← eq, ← ea, ← ei) d.stored; counted = (marked-on count l d).counted }

  pub wrote_none : (get_or wk i 0 ≡ 1 → ⊥) → Wrote (get_or wk e 0) (start + p) (get_or wv e 0) (get_or wm e 0) count vs ms (record { grows = 0; count = count }) vs ms
  wrote_none h =
      let b : eqb (get_or wk e 0) 1 ≡ false = rw (← ei) (ne_eqb (get_or wk i 0) 1 h) in
      record { grows = rw b; values = rw b; masks = rw b; counted = counted-idle count ms }

pub at-fits : (start p : ℕ) {q : ℕ} → start + p < 65536 → q ≡ p → Fits w64 (start + q)
at-fits start p h e = record { fits = omega arith }

module _ {to m : ℕ} {ms : List ℕ} {x : ℕ} {ms' : List ℕ} (d : Marked to m 8 ms x ms') (count : ℕ) where
  pub rise-fits : count ≤ 8589934592 → Fits w64 (count + x)
  rise-fits h = record { fits = omega (arith, d.counted.high) }

  pub rise-down : 8 ≤ count → 8 ≤ count + x
  rise-down h = omega arith

pub ruleset writing = (rules, wrote, wrote_none, at-fits, rise-fits, rise-down)

-- the entries up to e are passed, the position is p, and the count k
pub record Imaging (s : Site) (wv wm wk : List ℕ) (count : ℕ) (vs ms : List ℕ) (n : ℕ) (us os : List ℕ) (k e p : ℕ) : Type 0 where
  pub whole : n ≡ s.line.width + s.line.bytes
  pub inside : e ≤ n
  pub values : image_of s wv wk vs ≡ image_walk s.start s.size wv wk (n - e) e p us
  pub masks : image_of s wm wk ms ≡ image_walk s.start s.size wm wk (n - e) e p os
  pub values-long : length us ≡ length vs
  pub masks-long : length os ≡ length ms
  pub ready : Ready s
  pub counted : Counted e count ms k os

pub image-start : (s : Site) (wv wm wk : List ℕ) (count : ℕ) (vs ms : List ℕ) → Ready s → {n : ℕ} → n ≡ s.line.width + s.line.bytes → Imaging s wv wm wk count vs ms n vs ms count 0 s.line.address
unfolding image_of
image-start s wv wm wk count vs ms r {n} e = let z : n - 0 ≡ s.line.width + s.line.bytes = omega arith in record {
  whole = e;
  inside = omega arith;
  values = rw z;
  masks = rw z;
  values-long = refl;
  masks-long = refl;
  ready = r;
  counted = counted_none count ms;
}

pub out_of : (start size : ℕ) (ws keeps : List ℕ) (m e p : ℕ) (image : List ℕ) → size ≤ p → image_walk start size ws keeps m e p image ≡ image
unfolding image_walk
out_of start size ws keeps zero e p image h = refl
out_of start size ws keeps (suc m) e p image h = rw (le-ltb p size h)

module _ {s : Site} {wv wm wk : List ℕ} {count : ℕ} {vs ms : List ℕ} {n : ℕ} {us os : List ℕ} {k e p : ℕ} (w : Imaging s wv wm wk count vs ms n us os k e p) where
  pub image-end : n ≤ e → Imaged s wv wm wk count vs ms k us os
  unfolding image_walk
  image-end h = let z : n - e ≡ 0 = omega arith in record { values = sym (w.values ∙ rw z); masks = sym (w.masks ∙ rw z); moves = w.counted.moves }

  pub image-out : s.size ≤ p → Imaged s wv wm wk count vs ms k us os
  image-out l = record {
    values = sym (w.values ∙ out_of s.start s.size wv wk (n - e) e p us l);
    masks = sym (w.masks ∙ out_of s.start s.size wm wk (n - e) e p os l);
    moves = w.counted.moves;
  }

  pub image-room : p < s.size → s.start + p < 65536
  image-room h = omega (arith, w.ready.inside)

  pub image-entry : e < n → e < 260
  image-entry h = omega (arith, w.whole, w.ready.line.address, w.ready.line.content)

  pub image-narrow : e < n → Fits w32 (e + 1)
  image-narrow h = record { fits = omega (arith, w.whole, w.ready.line.address, w.ready.line.content) }

  pub image-low : e < n → 2080 ≤ count → 8 ≤ k
  image-low h l = omega (arith, w.whole, w.ready.line.address, w.ready.line.content, w.counted.low)

  pub image-high : e < n → count ≤ 4294969375 → k ≤ 8589934592
  image-high h l = omega (arith, w.whole, w.ready.line.address, w.ready.line.content, w.counted.high)

  module _ (l : p < s.size) {us' os' : List ℕ} {y : Entered} (o : Wrote (get_or wk e 0) (s.start + p) (get_or wv e 0) (get_or wm e 0) k us os y us' os') where
    pub image-grows : Fits w32 (p + y.grows)
    image-grows = record { fits = omega (arith, w.ready.inside, o.grows, one_at_most (eqb (get_or wk e 0) 1)) }

    pub image-more : e < n → length us' ≡ length us → length os' ≡ length os → Imaging s wv wm wk count vs ms n us' os' y.count (e + 1) (p + y.grows)
    unfolding image_walk
    image-more h lu lo = let z : n - e ≡ suc (n - suc e) = omega arith in record {
      whole = w.whole;
      inside = omega arith;
      values = w.values ∙ (ap (λ (k : ℕ). image_walk s.start s.size wv wk k e p us) z ∙ rw (lt-ltb p s.size l, add-one, o.grows, o.values));
      masks = w.masks ∙ (ap (λ (k : ℕ). image_walk s.start s.size wm wk k e p os) z ∙ rw (lt-ltb p s.size l, add-one, o.grows, o.masks));
      values-long = lu ∙ w.values-long;
      masks-long = lo ∙ w.masks-long;
      ready = w.ready;
      counted = counted-more w.counted o.counted;
    }

pub ruleset imaging = (rules, image-start, image-end, image-out, image-room, image-entry, image-narrow, image-low, image-high, image-grows, image-more)

-- `write_image`: t is the test of the bounds
module _ (s : Site) (wv wm wk vs ms : List ℕ) {t : Bool} (et : t ≡ is_ready s) where
  pub image-unready : not t ≡ true → {r : ℕ} → r ≡ s.filled.known → Written (is_ready s) (image_of s wv wk vs) (image_of s wm wk ms) s.filled.known vs ms r vs ms
  image-unready h k = let e : is_ready s ≡ false = sym et ∙ not-true t h in record { answer = known-still s.filled.known ms k; values = rw e; masks = rw e }

  module _ (k : not t ≡ false) where
    is_true : is_ready s ≡ true
    is_true = sym et ∙ not-false t k

    pub image-ready : Ready s
    image-ready = ready_by s is_true

    pub image-written : {count : ℕ} → count ≡ s.filled.known + 2080 → {j : ℕ} {vs' ms' : List ℕ} → Imaged s wv wm wk count vs ms j vs' ms' → {r : ℕ} → r ≡ j - 2080
        → Written (is_ready s) (image_of s wv wk vs) (image_of s wm wk ms) s.filled.known vs ms r vs' ms'
    image-written e {j} {vs'} {ms'} p f = record { answer = known-then s.filled.known ms ms' j e p.moves f; values = rw is_true p.values; masks = rw is_true p.masks }

pub ruleset wholly = (rules, image-unready, image-ready, image-written)
