-- Where a pair lies: its row, and the span of the room that it takes.
-- Assumes nothing.
use Prim.Native.Nat.{ℕ, ◌+◌, ◌-◌, ◌*◌, ◌≤◌, ◌<◌}
use mathlib.Core.Path.{◌≡◌, ap, subst, ◌∙◌}
use mathlib.Core.List.{List}
use native.Mathlib.Omega.{arith}
use lib.ListN.{get_or}
use borrow.Author.Rules.{rules}
use borrow.Author.Tests.{lt-ltb, le-ltb, le-leb, lt-leb}
use Rattle.homes.specs.declared.Home.{Home}
use Rattle.homes.specs.Home.{home_at}
use Rattle.laid_rows.specs.declared.span.Row.{Row}
use Rattle.laid_rows.specs.declared.span.Span.{Span}
use Rattle.laid_rows.specs.Over.{no_span, row_at, span_by, SpannedBy}

-- ------------------------------------------------------------------ `row_at`, `span_by`, `span_of`

pub row_is : (pairs : List ℕ) (k : ℕ) {a b c d e f : ℕ} → a ≡ get_or pairs (7 * k + 1) 0 → b ≡ get_or pairs (7 * k + 2) 0 → c ≡ get_or pairs (7 * k + 3) 0 → d ≡ get_or pairs (7 * k + 4) 0 → e ≡ get_or pairs (7 * k + 5) 0 → f ≡ get_or pairs (7 * k + 6) 0
    → record { address = a; area = b; begin = c; bytes = d; first = e; many = f } ≡ row_at pairs k
unfolding row_at
row_is pairs k ea eb ec ed ee ef = λ i. record { address = ea i; area = eb i; begin = ec i; bytes = ed i; first = ee i; many = ef i }

pub ruleset rowing = (rules, row_is)

module _ (r : Row) (h : Home) (room : ℕ) where
  none-there : {s : Span} → s ≡ no_span → no_span ≡ span_by r h room → SpannedBy r h room s
  none-there e q = rw e (record { is = q; begins = omega arith; ends = omega arith; few = omega arith; first-low = omega arith; many-low = omega arith })

  pub span-outside : h.size ≤ r.address → {s : Span} → s ≡ no_span → SpannedBy r h room s
  unfolding span_by
  span-outside l e = none-there e (rw (le-ltb r.address h.size l))

  module _ (l : r.address < h.size) where
    pub span-far : 65536 < h.start → {s : Span} → s ≡ no_span → SpannedBy r h room s
    unfolding span_by
    span-far q e = none-there e (rw (lt-ltb r.address h.size l, lt-leb h.start 65536 q))

    module _ (n : h.start ≤ 65536) where
      pub span-long : 256 < r.bytes → {s : Span} → s ≡ no_span → SpannedBy r h room s
      unfolding span_by
      span-long q e = none-there e (rw (lt-ltb r.address h.size l, le-leb h.start 65536 n, lt-leb r.bytes 256 q))

      module _ (m : r.bytes ≤ 256) {a b end : ℕ} (ea : a ≡ r.begin) (eb : b ≡ r.bytes) (ee : end ≡ a + b) where
        end_is : end ≡ r.begin + r.bytes
        end_is = omega arith

        pub span-misfit : room < end → {s : Span} → s ≡ no_span → SpannedBy r h room s
        unfolding span_by
        span-misfit q e = none-there e (rw (lt-ltb r.address h.size l, le-leb h.start 65536 n, le-leb r.bytes 256 m, lt-leb (r.begin + r.bytes) room (omega (arith, end_is))))

        pub span-here : end ≤ room → {a' first many address limit : ℕ} → a' ≡ r.begin → first ≡ r.first → many ≡ r.many → address ≡ r.address → limit ≡ h.size - r.address → r.first < 4294967296 → r.many < 4294967296
            → SpannedBy r h room (record { begin = a'; end = end; first = first; many = many; at = h.start + address; limit = limit })
        unfolding span_by
        span-here q e1 e2 e3 e4 e5 low1 low2 = record {
          is = rw (lt-ltb r.address h.size l, le-leb h.start 65536 n, le-leb r.bytes 256 m, le-leb (r.begin + r.bytes) room (omega (arith, end_is)), e1, e2, e3, e4, e5, end_is);
          begins = omega (arith, end_is);
          ends = q;
          few = omega (arith, end_is);
          first-low = omega arith;
          many-low = omega arith;
        }

pub ruleset spanning = (rules, span-outside, span-far, span-long, span-misfit, span-here)

pub span-at : (areas : List ℕ) (na : ℕ) (pairs : List ℕ) (room k : ℕ) {r : Row} → r ≡ row_at pairs k → {a : ℕ} → a ≡ r.area → {h : Home} → h ≡ home_at areas na a → {s : Span} → SpannedBy r h room s
    → SpannedBy (row_at pairs k) (home_at areas na (row_at pairs k).area) room s
span-at areas na pairs room k {r} er {a} ea {h} eh {s} q =
    let home-is : h ≡ home_at areas na (row_at pairs k).area = eh ∙ (ap (λ (x : ℕ). home_at areas na x) ea ∙ ap (λ (x : Row). home_at areas na x.area) er) in
    subst (λ (x : Row). SpannedBy x (home_at areas na (row_at pairs k).area) room s) er (subst (λ (x : Home). SpannedBy r x room s) home-is q)

pub ruleset span-rows = (rules, span-at)
