-- The laws of pairs written line by line.
-- Assumes nothing.
use Prim.Native.Nat.{suc, ℕ, ◌*◌, ◌+◌, ◌-◌, ◌<◌, ◌^◌, ◌≤◌}
use mathlib.Core.Path.{◌≡◌, ap, subst, ◌∙◌}
use mathlib.Core.Bool.{Bool}
use mathlib.Core.List.{List, [], ◌++◌}
use native.Mathlib.Omega.{arith}
use lib.ListN.{get_or, length}
use borrow.Author.Rules.{rules}
use Rattle.format.specs.Lists.{flat}
use Rattle.laws.specs.Rows.{from}
use Rattle.row_parts.specs.Parts.{part_of}
use Rattle.digits_out.specs.Wrote.{Wrote}
use Rattle.digits_out.proofs.Laws.{then-wrote}
use Rattle.content_out.specs.ContentOut.{content_out}
use Rattle.relocation_out.specs.RelocationOut.{relocation_out}
use Rattle.entries_out.proofs.Going.{Going, go-as, go-end, go-more, go-start}
use Rattle.pairs_out.specs.PairsOut.{pair_out, pairs_out}

-- `put_pair`
pub pair-wrote : (b : Bool) (k : ℕ) (ps bs fs : List ℕ) (i : ℕ) {a x f n : ℕ} {w out o₁ o₂ : List ℕ} {at p r : ℕ} → length out < 2 ^ 64 → a ≡ get_or ps (7 * i + 1) 0
    → w ≡ part_of bs (get_or ps (7 * i + 3) 0) (get_or ps (7 * i + 4) 0) → Wrote (content_out b k a w) out at p o₁ → x ≡ get_or ps (7 * i + 2) 0 → f ≡ get_or ps (7 * i + 5) 0 → n ≡ get_or ps (7 * i + 6) 0
    → Wrote (relocation_out b x fs f n) o₁ p r o₂ → Wrote (pair_out b k ps bs fs i) out at r o₂
unfolding pair_out
pair-wrote b k ps bs fs i {a} {x} {f} {n} {w} {out} {o₁} {o₂} {at} {p} {r} h ea ew y ex ef en z =
    let c : content_out b k a w ++ relocation_out b x fs f n ≡ content_out b k (get_or ps (7 * i + 1) 0) (part_of bs (get_or ps (7 * i + 3) 0) (get_or ps (7 * i + 4) 0)) ++ relocation_out b (get_or ps (7 * i + 2) 0) fs (get_or ps (7 * i + 5) 0) (get_or ps (7 * i + 6) 0) =
    rw (ea, ew, ex, ef, en) in
    subst (λ (l : List ℕ). Wrote l out at r o₂) c (then-wrote h y z)

pub ruleset pair = (rules, pair-wrote)

-- `put_pairs`
module _ (b : Bool) (k : ℕ) (ps bs fs : List ℕ) (n i : ℕ) where
  one-pair : i < n → pairs_out b k ps bs fs i (n - i) ≡ pair_out b k ps bs fs i ++ pairs_out b k ps bs fs (i + 1) (n - (i + 1))
  unfolding pairs_out from flat
  one-pair h =
      let z : n - i ≡ suc (n - (i + 1)) = omega arith in
      let v : suc i ≡ i + 1 = omega arith in
      ap (λ (m : ℕ). flat (pair_out b k ps bs fs) (from (λ j. j) i m)) z ∙ ap (λ (m : ℕ). pair_out b k ps bs fs i ++ flat (pair_out b k ps bs fs) (from (λ j. j) m (n - (i + 1)))) v

  no-pair : n ≤ i → pairs_out b k ps bs fs i (n - i) ≡ []
  unfolding pairs_out from flat
  no-pair h = let z : n - i ≡ 0 = omega arith in ap (λ (m : ℕ). flat (pair_out b k ps bs fs) (from (λ j. j) i m)) z

pub record Pairs (b : Bool) (k : ℕ) (ps bs fs : List ℕ) (n : ℕ) (out₀ : List ℕ) (at i p : ℕ) (out : List ℕ) : Type 0 where
  pub going : Going (pairs_out b k ps bs fs 0 n) out₀ at p out (pairs_out b k ps bs fs i (n - i))

pub pairs_start : (b : Bool) (k : ℕ) (ps bs fs : List ℕ) (n : ℕ) (out : List ℕ) (at : ℕ) → at < 2 ^ 64 → length out < 2 ^ 64 → Pairs b k ps bs fs n out at 0 at out
pairs_start b k ps bs fs n out at h l =
    let z : n ≡ n - 0 = omega arith in
    record { going = go-as (ap (λ (x : ℕ). pairs_out b k ps bs fs 0 x) z) (go-start (pairs_out b k ps bs fs 0 n) out at h l) }

module _ {b : Bool} {k : ℕ} {ps bs fs : List ℕ} {n : ℕ} {out₀ : List ℕ} {at i p : ℕ} {out : List ℕ} (x : Pairs b k ps bs fs n out₀ at i p out) where
  pub pairs-more : i < n → {out₁ : List ℕ} {q : ℕ} → Wrote (pair_out b k ps bs fs i) out p q out₁ → Pairs b k ps bs fs n out₀ at (i + 1) q out₁
  pairs-more h y = record { going = go-more (go-as (one-pair b k ps bs fs n i h) x.going) y }

  pub pairs_end : n ≤ i → Wrote (pairs_out b k ps bs fs 0 n) out₀ at p out
  pairs_end h = go-end (go-as (no-pair b k ps bs fs n i h) x.going)

pub ruleset pairs = (rules, pairs_start, pairs-more, pairs_end)
