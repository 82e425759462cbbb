-- The laws of what is added one behind the other.
-- Assumes nothing.
use Prim.Native.Nat.{ℕ, ◌+◌, ◌≤◌}
use mathlib.Core.Path.{◌≡◌, ap, sym, ◌∙◌}
use mathlib.Core.List.{List, ◌++◌}
use native.Mathlib.Omega.{arith}
use lib.ListN.{length, length-append}
use lib.Seq.{sets, length-sets}
use borrow.Author.Rules.{rules}
use Rattle.io.specs.Digits.{last_digits, IsDigitCount}
use Rattle.cells.proofs.Laws.{sets-append}
use Rattle.sink.specs.declared.output.Sink.{Sink}
use Rattle.sink.specs.Sinks.{behind, Adds, AddsDecimal}

module _ {s t r : Sink} {out mid after : List ℕ} {a b : List ℕ} (p : Adds s out a t mid) (q : Adds t mid b r after) where
  module _ (h : s.used + length (a ++ b) ≤ length out) where
    first : s.used + length a ≤ length out
    first = omega (arith, length-append a b)

    used : t.used ≡ s.used + length a
    used = ap (λ (x : Sink). x.used) (p.waits first)

    long : length mid ≡ length out
    long = rw (p.stand first) (length-sets out s.used a)

    second : t.used + length b ≤ length mid
    second = omega (arith, length-append a b, used, long)

    both-wait : r ≡ behind s (a ++ b)
    both-wait =
        let e : behind t b ≡ behind s (a ++ b) = rw (p.waits first, length-append a b, add-assoc-here) in
        q.waits second ∙ e
      where
        add-assoc-here : s.used + length a + length b ≡ s.used + (length a + length b)
        add-assoc-here = omega arith

    both-stand : after ≡ sets out s.used (a ++ b)
    both-stand =
        q.stand second ∙ (ap (λ (l : List ℕ). sets l t.used b) (p.stand first) ∙ (ap (λ (n : ℕ). sets (sets out s.used a) n b) used ∙ sym (sets-append out s.used a b)))

  pub adds-both : Adds s out (a ++ b) r after
  adds-both = record { waits = both-wait; stand = both-stand }

module _ {s t r : Sink} {out mid after : List ℕ} {a b : List ℕ} where
  pub adds-text : (c : List ℕ) → Adds s out a t mid → b ≡ c → Adds t mid b r after → Adds s out (a ++ c) r after
  adds-text c p e q = rw e at (adds-both p q)

  pub adds-decimal : {n k : ℕ} → Adds s out a t mid → IsDigitCount 10 1 n k → b ≡ last_digits 10 k n → Adds t mid b r after → AddsDecimal s out a n r after
  adds-decimal {n} {k} p f e q = record { places = k; fewest = f; adds = adds-text (last_digits 10 k n) p e q }

pub ruleset texts = (rules, adds-text, adds-decimal)
