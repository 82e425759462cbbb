-- The pairs laid out, one after the other.
-- Assumes nothing.
use Prim.Native.Nat.{ℕ, suc, min, ◌+◌, ◌-◌, ◌≤◌, ◌<◌}
use mathlib.Core.Path.{◌≡◌, refl, ap, sym, ◌∙◌}
use mathlib.Core.Bool.{Bool}
use mathlib.Core.List.{List}
use native.Mathlib.Omega.{arith}
use native.Mathlib.Numerals.{add-one}
use lib.ListN.{length, take, drop}
use lib.Seq.{length-sets}
use borrow.Author.Rules.{rules}
use Rattle.laws.specs.Rows.{from}
use Rattle.record_parts.specs.Parts.{fragment_from}
use Rattle.laid_rows.specs.Over.{Around, laid_over, span_of, span_over, row_over, rows_over}

-- ------------------------------------------------------------------ `lay_pairs`

pub record Going (big : Bool) (width : ℕ) (w : Around) (pairs content rows : List ℕ) (n : ℕ) (out₀ out : List ℕ) (k : ℕ) : Type 0 where
  pub within : k ≤ min n 4096
  pub long : length out ≡ length out₀
  pub rest : rows_over big width w pairs content rows 0 (min n 4096) out₀ ≡ rows_over big width w pairs content rows k (min n 4096 - k) out

pub going_start : (big : Bool) (width : ℕ) (w : Around) (pairs content rows : List ℕ) (n : ℕ) (out : List ℕ) → Going big width w pairs content rows n out out 0
going_start big width w pairs content rows n out = let z : min n 4096 - 0 ≡ min n 4096 = omega arith in record { within = omega arith; long = refl; rest = rw z }

row-length : (big : Bool) (width : ℕ) (w : Around) (pairs content rows : List ℕ) (k : ℕ) (out : List ℕ) → length (row_over big width w pairs content rows k out) ≡ length out
unfolding row_over span_over
row-length big width w pairs content rows k out =
    let s = span_of w.areas w.filled.areas pairs (length content) k in
    let bs = take (s.end - s.begin) (drop s.begin content) in
    length-sets out s.at (take s.limit (laid_over big width w bs (from (fragment_from rows) s.first s.many) bs))

module _ {big : Bool} {width : ℕ} {w : Around} {pairs content rows : List ℕ} {n : ℕ} {out₀ out : List ℕ} {k : ℕ} (g : Going big width w pairs content rows n out₀ out k) where
  over-now : min n 4096 - k ≡ 0 → out ≡ rows_over big width w pairs content rows 0 (min n 4096) out₀
  unfolding rows_over
  over-now z = sym (g.rest ∙ rw z)

  module _ {m : ℕ} (em : m ≡ min n 4096) where
    pub going_end : m ≤ k → out ≡ rows_over big width w pairs content rows 0 (min n 4096) out₀
    going_end h = over-now (omega arith)

    module _ (h : k < m) where
      pub going_more : {out' : List ℕ} → out' ≡ row_over big width w pairs content rows k out → Going big width w pairs content rows n out₀ out' (k + 1)
      unfolding rows_over
      going_more {out'} e =
          let z : min n 4096 - k ≡ suc (min n 4096 - (k + 1)) = omega arith in
          record { within = omega arith; long = ap length e ∙ (row-length big width w pairs content rows k out ∙ g.long); rest = g.rest ∙ (ap (λ (j : ℕ). rows_over big width w pairs content rows k j out) z ∙ rw (e, add-one)) }

      pub going-low : k ≤ 4096
      going-low = omega arith

pub ruleset all-pairs = (rules, going_start, going_end, going_more, going-low)
