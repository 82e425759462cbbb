-- The condition that pairs are apart.
-- Assumes nothing.
use Prim.Native.Nat.{ℕ, suc, ◌+◌, ◌-◌, ◌*◌, ◌≤◌, ◌<◌}
use mathlib.Core.Path.{◌≡◌, ap, sym, ◌∙◌}
use mathlib.Core.Bool.{Bool, true, false, not, ◌&&◌}
use mathlib.Core.List.{List}
use native.Mathlib.Omega.{arith}
use native.Mathlib.Nat.{add-zero}
use native.Mathlib.Numerals.{add-one}
use lib.ListN.{get_or}
use borrow.Author.Rules.{rules}
use Rattle.fit_rows.specs.Fits.{meets, clear_from, end_at, apart_at, apart_from}
use Rattle.fit_rows.proofs.Laws.Tests.{is_false, is_true}

-- ------------------------------------------------------------------ `is_clear_of`

pub record Clearing (pairs : List ℕ) (area s e k n i : ℕ) : Type 0 where
  pub within : i ≤ n
  pub rest : clear_from pairs area s e k n ≡ clear_from pairs area s e (k + i) (n - i)

pub clearing-start : (pairs : List ℕ) (area s e k n : ℕ) → Clearing pairs area s e k n 0
clearing-start pairs area s e k n = let z : n - 0 ≡ n = omega arith in record { within = omega arith; rest = rw (z, add-zero) }

module _ {pairs : List ℕ} {area s e k n i : ℕ} (g : Clearing pairs area s e k n i) where
  pub clearing-end : n ≤ i → true ≡ clear_from pairs area s e k n
  unfolding clear_from
  clearing-end h = let z : n - i ≡ 0 = omega arith in sym (g.rest ∙ rw z)

  module _ (h : i < n) {b : Bool} (eb : b ≡ meets pairs area s e (k + i)) where
    one-row : clear_from pairs area s e k n ≡ (not b && clear_from pairs area s e (k + (i + 1)) (n - (i + 1)))
    unfolding clear_from
    one-row =
        let z : n - i ≡ suc (n - (i + 1)) = omega arith in
        let y : k + (i + 1) ≡ suc (k + i) = omega arith in
        g.rest ∙ (ap (λ (m : ℕ). clear_from pairs area s e (k + i) m) z ∙ rw (eb, y))

    pub clearing-not : b ≡ true → false ≡ clear_from pairs area s e k n
    clearing-not d = sym (one-row ∙ rw d)

    pub clearing-more : b ≡ false → Clearing pairs area s e k n (i + 1)
    clearing-more d = record { within = omega arith; rest = one-row ∙ rw d }

pub ruleset clear-rows = (rules, clearing-start, clearing-end, clearing-not, clearing-more)

-- ------------------------------------------------------------------ `is_apart`, `are_apart`

pub apart-is : (areas : List ℕ) (na : ℕ) (pairs : List ℕ) (k n : ℕ) {e : ℕ} → e ≡ end_at areas na pairs k → {b s : ℕ} → b ≡ get_or pairs (7 * k + 1) 0 → s ≡ b → {x : ℕ} → x ≡ get_or pairs (7 * k + 2) 0 → {c : Bool}
    → c ≡ clear_from pairs x s e (k + 1) n → c ≡ apart_at areas na pairs k n
unfolding apart_at
apart-is areas na pairs k n ee eb es ex ec = ec ∙ rw (ex, es, eb, ee, add-one k)

pub ruleset apart = (rules, apart-is)

pub record Parting (areas : List ℕ) (na : ℕ) (pairs : List ℕ) (n k : ℕ) : Type 0 where
  pub within : k ≤ n
  pub rest : apart_from areas na pairs 0 n ≡ apart_from areas na pairs k (n - k)

pub parting-start : (areas : List ℕ) (na : ℕ) (pairs : List ℕ) (n : ℕ) → Parting areas na pairs n 0
parting-start areas na pairs n = let z : n - 0 ≡ n = omega arith in record { within = omega arith; rest = rw z }

module _ {areas : List ℕ} {na : ℕ} {pairs : List ℕ} {n k : ℕ} (g : Parting areas na pairs n k) where
  pub parting-end : n ≤ k → true ≡ apart_from areas na pairs 0 n
  unfolding apart_from
  parting-end h = let z : n - k ≡ 0 = omega arith in sym (g.rest ∙ rw z)

  module _ (h : k < n) {c : Bool} (ec : c ≡ apart_at areas na pairs k (n - k - 1)) where
    one_apart : apart_from areas na pairs 0 n ≡ (c && apart_from areas na pairs (k + 1) (n - (k + 1)))
    unfolding apart_from
    one_apart =
        let z : n - k ≡ suc (n - (k + 1)) = omega arith in
        let y : n - k - 1 ≡ n - (k + 1) = omega arith in
        g.rest ∙ (ap (λ (m : ℕ). apart_from areas na pairs k m) z ∙ rw (ec, y, add-one k))

    pub parting-not : not c ≡ true → false ≡ apart_from areas na pairs 0 n
    parting-not d = sym (one_apart ∙ rw (is_false c d))

    pub parting-more : not c ≡ false → Parting areas na pairs n (k + 1)
    parting-more d = record { within = omega arith; rest = one_apart ∙ rw (is_true c d) }

pub ruleset parting = (rules, parting-start, parting-end, parting-not, parting-more)
