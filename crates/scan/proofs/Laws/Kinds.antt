-- Kinds of bytes, and the place behind a run of one kind.
-- Assumes nothing.
use Prim.Native.Nat.{ℕ, ◌+◌, ◌<◌, ◌≤◌, max}
use mathlib.Core.Path.{◌≡◌, refl, ap, sym, ◌∙◌}
use mathlib.Core.Bool.{Bool, true, false, not}
use mathlib.Core.List.{List, ◌∷◌}
use native.Mathlib.Numerals.{add-one}
use native.Mathlib.Omega.{arith}
use native.Mathlib.Nat.{add-zero}
use lib.ListN.{length, get_or, drop, drop_of_length-le, get_or-eq_default}
use lib.Seq.{drop-cons}
use lib.Dec.{eqb}
use borrow.Author.Rules.{rules}
use borrow.Author.Tests.{eq-eqb, ne_eqb}
use Rattle.format.specs.Lists.{run}
use Rattle.format.specs.Bytes.{is_blank, is_cr_or_lf, is_white, is_name_byte}
use Rattle.format.specs.Number.{past}
use Rattle.scan.proofs.Laws.Tests.{by_order}
use Rattle.scan.specs.Kinds.{kind_of}
use Rattle.scan.specs.declared.Kind.{Kind}

-- the classes, by their tests
module _ (b : ℕ) where
  pub blank-1 : b ≡ 32 → true ≡ is_blank b
  unfolding is_blank
  blank-1 h = rw (eq-eqb b 32 h)

  pub blank-2 : (b ≡ 32 → ⊥) → eqb b 9 ≡ is_blank b
  unfolding is_blank
  blank-2 h = rw (ne_eqb b 32 h)

  pub eol-1 : b ≡ 13 → true ≡ is_cr_or_lf b
  unfolding is_cr_or_lf
  eol-1 h = rw (eq-eqb b 13 h)

  pub eol-2 : (b ≡ 13 → ⊥) → eqb b 10 ≡ is_cr_or_lf b
  unfolding is_cr_or_lf
  eol-2 h = rw (ne_eqb b 13 h)

  module _ {x : Bool} (e : x ≡ is_blank b) where
    pub white-1 : x ≡ true → true ≡ is_white b
    unfolding is_white
    white-1 h = rw (← e, h)

    pub white-2 : x ≡ false → {y : Bool} → y ≡ is_cr_or_lf b → y ≡ is_white b
    unfolding is_white
    white-2 h f = rw (← e, h) f

  pub plain-not : {x : Bool} → x ≡ is_white b → not x ≡ is_name_byte b
  unfolding is_name_byte
  plain-not e = rw e

  pub inner-not : {x : Bool} → x ≡ is_cr_or_lf b → not x ≡ not (is_cr_or_lf b)
  inner-not e = rw e

-- the arm of the kind
pub kind-is : (b : ℕ) {k m : Kind} {x : Bool} → k ≡ m → x ≡ kind_of m b → x ≡ kind_of k b
kind-is b e h = rw e h

pub ruleset classes = (rules, blank-1, blank-2, eol-1, eol-2, white-1, white-2, plain-not, inner-not, kind-is)

pub past_end : (s : List ℕ) {i : ℕ} → length s ≤ i → 0 ≡ get_or s i 0
past_end s h = sym (get_or-eq_default s 0 h)

pub ruleset places = (rules, past_end)

-- the place behind a run, from a place inside it
pub record Spans (p : ℕ → Bool) (s : List ℕ) (at i : ℕ) : Type 0 where
  pub whole : past p s at ≡ past p s i

pub span-start : (p : ℕ → Bool) (s : List ℕ) (at : ℕ) → Spans p s at at
span-start p s at = record { whole = refl }

module _ {p : ℕ → Bool} {s : List ℕ} {at i : ℕ} (w : Spans p s at i) where
  pub span-end : length s ≤ i → i ≡ past p s at
  unfolding past run
  span-end h = rw (w.whole, drop_of_length-le s h) (sym (add-zero i))

  module _ {t : Bool} (a : t ≡ p (get_or s i 0)) (h : i < length s) where
    pub span_more : t ≡ true → Spans p s at (i + 1)
    unfolding past run
    span_more b =
        let e : run p (drop i s) ≡ get_or s i 0 ∷ run p (drop (i + 1) s) = rw (add-one, drop-cons s i 0 h, sym a ∙ b) in
        record { whole = w.whole ∙ omega (arith, ap length e) }

    pub span-stop : t ≡ false → i ≡ past p s at
    unfolding past run
    span-stop b = rw (w.whole, drop-cons s i 0 h, sym a ∙ b) (sym (add-zero i))

-- past the last place inside, or where the run began past it
pub span-max : (p : ℕ → Bool) (s : List ℕ) (at i : ℕ) {m : ℕ} → m ≡ max at (length s) → (at ≤ length s → i ≤ length s) → length s ≤ i → Spans p s at i → m ≡ past p s at
span-max p s at i {m} e f h w = by_order at (length s)
    (λ k. let j : m ≡ i = omega (arith, f (omega arith)) in j ∙ span-end w h)
    (λ k. let j : m ≡ at = omega arith in j ∙ span-end (span-start p s at) k)

pub ruleset spans = (rules, span-start, span_more, span-stop, span-end, span-max)

-- what is above space is no blank
pub no-blank : (b : ℕ) → 32 < b → false ≡ is_blank b
no-blank b h = sym (ne_eqb b 9 (λ e. omega arith)) ∙ blank-2 b (λ e. omega arith)

-- one space, and no blank behind it
pub one-space : (s : List ℕ) (at : ℕ) → at + 2 ≤ length s → get_or s at 0 ≡ 32 → 32 < get_or s (at + 1) 0 → at + 1 ≡ past is_blank s at
one-space s at h e k = span-stop (span_more (span-start is_blank s at) (blank-1 (get_or s at 0) e) (omega arith) refl) (no-blank (get_or s (at + 1) 0) k) (omega arith) refl
