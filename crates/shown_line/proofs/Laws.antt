-- The laws of the line that is shown.
-- Assumes nothing.
use Prim.Native.Nat.{ℕ, ◌+◌, ◌-◌, ◌≤◌, ◌<◌, ◌^◌, max, min}
use mathlib.Core.Path.{◌≡◌, refl, sym, ap, ◌∙◌}
use mathlib.Core.Bool.{Bool, true, false, not}
use mathlib.Core.List.{List, [], ◌∷◌, ◌++◌, map}
use native.Mathlib.Nat.{add-zero}
use native.Mathlib.Numerals.{add-one}
use native.Mathlib.Omega.{arith}
use lib.Dec.{eqb}
use lib.ListN.{length, take, drop, get_or, drop_of_length-le}
use lib.Seq.{drop-cons, take-suc, take_all}
use borrow.Author.Rules.{rules}
use borrow.Author.Tests.{eq-eqb, ne_eqb}
use mir.Val.{Fits}
use mir.Syntax.{w64}
use Rattle.format.specs.Lists.{pick}
use Rattle.format.specs.Bytes.{is_cr_or_lf}
use Rattle.format.specs.Number.{past}
use Rattle.sink.specs.declared.output.Sink.{Sink}
use Rattle.sink.specs.Sinks.{Adds}
use Rattle.texts.proofs.Laws.{adds-both}
use Rattle.shown_line.specs.declared.Window.{Window}
use Rattle.shown_line.specs.Shown.{lines_from, safe, start_from, window_of}

-- `after_byte`
pub byte-lf : (b next same : ℕ) → b ≡ 10 → next ≡ pick (eqb b 10) next same
byte-lf b next same e = sym (ap (λ (t : Bool). pick t next same) (eq-eqb b 10 e))

pub byte-other : (b next same : ℕ) → (b ≡ 10 → ⊥) → same ≡ pick (eqb b 10) next same
byte-other b next same e = sym (ap (λ (t : Bool). pick t next same) (ne_eqb b 10 e))

one-or-same : (t : Bool) (n : ℕ) → pick t (n + 1) n ≤ n + 1
one-or-same true n = omega arith
one-or-same false n = omega arith

-- `lines_in`: i bytes are counted
pub record Counting (s : List ℕ) (n i : ℕ) : Type 0 where
  pub within : i ≤ length s
  pub low : n ≤ i
  pub same : lines_from 0 s ≡ lines_from n (drop i s)

pub count-start : (s : List ℕ) → Counting s 0 0
count-start s = record { within = omega arith; low = omega arith; same = refl }

module _ {s : List ℕ} {n i : ℕ} (w : Counting s n i) where
  pub count_room : i < length s → length s < 2 ^ 64 → Fits w64 (n + 1)
  count_room h l = record { fits = omega (arith, w.low) }

  pub count-end : length s ≤ i → n ≡ lines_from 0 s
  unfolding lines_from
  count-end h = sym (w.same ∙ rw (drop_of_length-le s h))

  module _ (h : i < length s) where
    pub count-more : {m : ℕ} → m ≡ pick (eqb (get_or s i 0) 10) (n + 1) n → Counting s m (i + 1)
    unfolding lines_from
    count-more {m} e = record {
      within = omega arith;
      low = omega (arith, w.low, one-or-same (eqb (get_or s i 0) 10) n, e);
      same = w.same ∙ rw (drop-cons s i 0 h) (rw (e, add-one, add-one));
    }

pub ruleset counting = (rules, byte-lf, byte-other, count-start, count-end, count_room, count-more)

-- `start_behind`
pub record Starting (s : List ℕ) (start i : ℕ) : Type 0 where
  pub within : i ≤ length s
  pub same : start_from 0 0 s ≡ start_from i start (drop i s)

pub start-start : (s : List ℕ) → Starting s 0 0
start-start s = record { within = omega arith; same = refl }

module _ {s : List ℕ} {start i : ℕ} (w : Starting s start i) where
  pub start-end : length s ≤ i → start ≡ start_from 0 0 s
  unfolding start_from
  start-end h = sym (w.same ∙ rw (drop_of_length-le s h))

  module _ (h : i < length s) where
    pub start-more : {m : ℕ} → m ≡ pick (eqb (get_or s i 0) 10) (i + 1) start → Starting s m (i + 1)
    unfolding start_from
    start-more {m} e = record { within = omega arith; same = w.same ∙ rw (drop-cons s i 0 h) (rw (e, add-one)) }

pub ruleset starting = (rules, start-start, start-end, start-more)

-- `window`
pub window-is : (text : List ℕ) (place : ℕ) {p : List ℕ} {start end from to : ℕ} → start ≡ start_from 0 0 p → p ≡ take place text → end ≡ past (λ b. not (is_cr_or_lf b)) text place
    → from ≡ max start (place - 48) → to ≡ min (from + 72) end → ◌≡◌ {A = Window} (record { start = start; from = from; to = to; end = end }) (window_of text place)
unfolding window_of
window-is text place {p} {start} {end} {from} {to} k e b c d =
    let a : start ≡ start_from 0 0 (take place text) = k ∙ ap (start_from 0 0) e in
    λ i. record {
      start = a i;
      from = (c ∙ ap (λ (x : ℕ). max x (place - 48)) a) i;
      to = (d ∙ ap (λ (x : ℕ). min (x + 72) end) (c ∙ ap (λ (x : ℕ). max x (place - 48)) a) ∙ ap (min (max (start_from 0 0 (take place text)) (place - 48) + 72)) b) i;
      end = b i;
    }

-- `lines_before`
pub lines-of-part : (text : List ℕ) (place : ℕ) {p : List ℕ} {n : ℕ} → n ≡ lines_from 0 p → p ≡ take place text → n ≡ lines_from 0 (take place text)
lines-of-part text place a e = a ∙ ap (lines_from 0) e

pub ruleset windows = (rules, window-is, lines-of-part)

-- `put_safe`: i bytes are added
map-append : (f : ℕ → ℕ) (a b : List ℕ) → map f (a ++ b) ≡ map f a ++ map f b
map-append f [] b = refl
map-append f (x ∷ a) b = ap (λ (l : List ℕ). f x ∷ l) (map-append f a b)

one_more : (l : List ℕ) (i : ℕ) → i < length l → map safe (take i l) ++ safe (get_or l i 0) ∷ [] ≡ map safe (take (i + 1) l)
one_more l i h = rw (add-one, take-suc l i 0 h, map-append)

pub record Putting (s : Sink) (out bytes : List ℕ) (now : Sink) (at : List ℕ) (i : ℕ) : Type 0 where
  pub within : i ≤ length bytes
  pub sofar : Adds s out (map safe (take i bytes)) now at

nothing-added : (s : Sink) (out : List ℕ) → Adds s out [] s out
nothing-added s out = record { waits = λ h. λ j. record { used = sym (add-zero s.used) j; broken = s.broken }; stand = λ h. refl }

pub put-start : (s : Sink) (out bytes : List ℕ) → Putting s out bytes s out 0
put-start s out bytes = record { within = omega arith; sofar = nothing-added s out }

module _ {s now : Sink} {out bytes at : List ℕ} {i : ℕ} (w : Putting s out bytes now at i) where
  pub put-more : i < length bytes → {b : ℕ} → b ≡ safe (get_or bytes i 0) → {r : Sink} {after : List ℕ} → Adds now at (b ∷ []) r after → Putting s out bytes r after (i + 1)
  put-more h {b} e {r} {after} q =
      let p : Adds now at (safe (get_or bytes i 0) ∷ []) r after = rw e at q in
      record { within = omega arith; sofar = rw (one_more bytes i h) at (adds-both w.sofar p) }

  pub put-end : length bytes ≤ i → Adds s out (map safe bytes) now at
  put-end h = rw (take_all i bytes h) at w.sofar

pub ruleset putting = (rules, put-start, put-more, put-end)
