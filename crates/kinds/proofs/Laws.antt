-- What the proofs share: a law for each return, and the loop's invariant.
-- Assumes nothing.
use Prim.Native.Nat.{ℕ, zero, suc, ◌+◌, ◌-◌, ◌≤◌, ◌<◌}
use mathlib.Core.Path.{◌≡◌, refl, ap, sym, ◌∙◌}
use mathlib.Core.Bool.{true, false}
use mathlib.Core.List.{List}
use native.Mathlib.Numerals.{add-one}
use native.Mathlib.Omega.{arith}
use mir.Val.{Fits}
use mir.Syntax.{w64}
use lib.Dec.{eqb}
use lib.ListN.{get_or}
use borrow.Author.Rules.{rules}
use borrow.Author.Tests.{eq-eqb, ne_eqb}
use Rattle.format.specs.Lists.{pick}
use Rattle.laws.proofs.Areas.{one_at_most}
use Rattle.kinds.specs.Kinds.{kind_count, kind_of, kinds_in}
use Rattle.kinds.specs.declared.Kinds.{Kinds}

-- `kind_of`
module _ (mask mark : ℕ) where
  pub kind-unwritten : mark ≡ 0 → 0 ≡ kind_of mask mark
  unfolding kind_of
  kind-unwritten h = rw (eq-eqb mark 0 h)

  module _ (w : mark ≡ 0 → ⊥) where
    pub kind-known : mask ≡ 255 → 1 ≡ kind_of mask mark
    unfolding kind_of
    kind-known h = rw (ne_eqb mark 0 w, eq-eqb mask 255 h)

    module _ (k : mask ≡ 255 → ⊥) where
      pub kind-relocated : mask ≡ 0 → 3 ≡ kind_of mask mark
      unfolding kind_of
      kind-relocated h = rw (ne_eqb mark 0 w, ne_eqb mask 255 k, eq-eqb mask 0 h)

      pub kind-partly : (mask ≡ 0 → ⊥) → 2 ≡ kind_of mask mark
      unfolding kind_of
      kind-partly h = rw (ne_eqb mark 0 w, ne_eqb mask 255 k, ne_eqb mask 0 h)

pub ruleset one = (rules, kind-unwritten, kind-known, kind-relocated, kind-partly)

-- `one_if`
module _ (masks map : List ℕ) (i kind : ℕ) {a b x : ℕ} (ea : a ≡ get_or masks i 0) (eb : b ≡ get_or map i 0) (ex : x ≡ kind_of a b) where
  number_is : kind_of (get_or masks i 0) (get_or map i 0) ≡ x
  number_is = sym (ex ∙ (ap (λ (y : ℕ). kind_of y b) ea ∙ ap (λ (y : ℕ). kind_of (get_or masks i 0) y) eb))

  pub is_one : x ≡ kind → ◌≡◌ {A = ℕ} 1 (pick (eqb (kind_of (get_or masks i 0) (get_or map i 0)) kind) 1 0)
  is_one h = rw (number_is, eq-eqb x kind h)

  pub is_none : (x ≡ kind → ⊥) → ◌≡◌ {A = ℕ} 0 (pick (eqb (kind_of (get_or masks i 0) (get_or map i 0)) kind) 1 0)
  is_none h = rw (number_is, ne_eqb x kind h)

pub ruleset of-kind = (rules, is_one, is_none)

-- `count`
pub record Counting (masks map : List ℕ) (n kind many i : ℕ) : Type 0 where
  pub inside : i ≤ n
  pub low : many ≤ i
  pub rest : kind_count masks map kind 0 n ≡ many + kind_count masks map kind i (n - i)

pub count-start : (masks map : List ℕ) (n kind : ℕ) → Counting masks map n kind 0 0
count-start masks map n kind = let z : n - 0 ≡ n = omega arith in record { inside = omega arith; low = omega arith; rest = rw z (omega arith) }

module _ {masks map : List ℕ} {n kind many i : ℕ} (w : Counting masks map n kind many i) where
  pub count-end : n ≤ i → many ≡ kind_count masks map kind 0 n
  unfolding kind_count
  count-end h = let z : n - i ≡ 0 = omega arith in let e : kind_count masks map kind i (n - i) ≡ 0 = rw z in omega (arith, w.rest)

  module _ (h : i < n) {x : ℕ} (e : x ≡ pick (eqb (kind_of (get_or masks i 0) (get_or map i 0)) kind) 1 0) where
    next : kind_count masks map kind i (n - i) ≡ x + kind_count masks map kind (suc i) (n - suc i)
    unfolding kind_count
    next = let z : n - i ≡ suc (n - suc i) = omega arith in ap (λ (m : ℕ). kind_count masks map kind i m) z ∙ rw e

    pub count_fits : n < 18446744073709551616 → Fits w64 (many + x)
    count_fits m = record { fits = omega (arith, w.low, e, one_at_most (eqb (kind_of (get_or masks i 0) (get_or map i 0)) kind)) }

    pub count-more : Counting masks map n kind (many + x) (i + 1)
    count-more = record { inside = omega arith; low = omega (arith, w.low, e, one_at_most (eqb (kind_of (get_or masks i 0) (get_or map i 0)) kind)); rest = rw add-one (omega (arith, w.rest, next)) }

pub ruleset counting = (rules, count-start, count-end, count_fits, count-more)

-- `kinds_in`
pub by_kind : (masks map : List ℕ) (n : ℕ) {a b c d : ℕ} → a ≡ kind_count masks map 0 0 n → b ≡ kind_count masks map 1 0 n → c ≡ kind_count masks map 2 0 n → d ≡ kind_count masks map 3 0 n
    → record { unwritten = a; known = b; partly = c; relocated = d } ≡ kinds_in masks map n
unfolding kinds_in
by_kind masks map n p q r s = rw (p, q, r, s)

pub ruleset all = (rules, by_kind)
