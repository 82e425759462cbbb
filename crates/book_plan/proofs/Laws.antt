-- Laws for the plan of a book.
-- Assumes nothing.
use Prim.Native.Nat.{ℕ, ◌+◌, min, ◌<◌, ◌≤◌}
use mathlib.Core.Path.{◌≡◌, refl, sym, ap, subst, ◌∙◌}
use mathlib.Core.Bool.{Bool, true, false}
use mathlib.Core.List.{List}
use native.Mathlib.Omega.{arith}
use lib.ListN.{length, length-map}
use lib.Dec.{leb}
use borrow.Author.Rules.{rules}
use borrow.Author.Tests.{lt-ltb, le-ltb}
use Rattle.std.specs.Prelude.{Option, None, Some, Result, Err}
use Rattle.format.specs.Lists.{pick, flat}
use Rattle.format.specs.Outcome.{Outcome, fine, refused, and_then}
use Rattle.laws.proofs.Outcomes.{unlike}
use Rattle.book.specs.Contents.{start}
use Rattle.book.specs.Entries.{Entry, body, in_order_of}
use Rattle.book.specs.Given.{entry_at, given, pooled, arranged, most_bytes, numbers_of}
use Rattle.book.specs.Steps.{silent}
use Rattle.book.specs.Written.{book_of, fitted}
use Rattle.book.proofs.Given.{fitted-by-length, pooled-most}
use Rattle.book.proofs.Numbering.{numbers-tell, numbers-long, bodies_kept}
use Rattle.book.proofs.Writing.{book-size}
use Rattle.book_given.specs.Told.{twice_of}
use Rattle.book_plan.specs.Told.{summed, planned, wrote_of}
use Rattle.book_plan.specs.declared.plan.Refusal.{Refusal}

-- entries that are told in order, without the order
is-refused : {A : Type 0} (o : Outcome A) (n p : ℕ) → silent o ≡ refused n p → o ≡ refused n p
is-refused (fine a) n p h = unlike n p 0 (sym h)
is-refused (refused m q) n p h = cc

record Told {A : Type 0} (o : Outcome A) : Type 0 where
  value : A
  is : o ≡ fine value

is-fine : {A : Type 0} (o : Outcome A) → silent o ≡ fine 0 → Told o
is-fine (fine a) h = record { value = a; is = refl }
is-fine (refused m q) h = unlike m q 0 h

-- the length of the book of entries in order is the sum of its parts
in-order-sum : (p r : List ℕ) (n room : ℕ) (fs : List Entry) → in_order_of (given p r 0 n) ≡ fine fs → and_then (fitted (min room most_bytes) fs) (λ b. fine (length b)) ≡ summed (given p r 0 n) n (min room most_bytes)
unfolding summed
in-order-sum p r n room fs h =
    let t = numbers-tell p r n fs h in
    let l : length fs ≡ n = sym (ap length t) ∙ (length-map (numbers_of p r n) (entry_at p r) ∙ numbers-long p r n) in
    let k : length (book_of fs) ≡ start n + length (flat body (given p r 0 n)) = book-size fs ∙ rw (l, bodies_kept (given p r 0 n) fs h) in
    rw (fitted-by-length room fs) (go (leb (length (book_of fs)) (min room most_bytes)) ∙ rw k)
  where
    go : (t : Bool) → and_then (pick t (fine (book_of fs)) (refused 24 0)) (λ b. fine (length b)) ≡ pick t (fine (length (book_of fs))) (refused 24 0)
    go true = refl
    go false = refl

module _ (p r : List ℕ) (n room : ℕ) {m : ℕ} (e : m ≡ pooled p r 0 n) {t : Option ℕ} (f : silent (in_order_of (given p r 0 m)) ≡ twice_of t) where
  pub plan-twice : {k : ℕ} → t ≡ Some k → planned p r n room ≡ wrote_of (Err (record { number = 21; place = k }))
  unfolding planned arranged
  plan-twice {k} g =
      let h = is-refused (in_order_of (given p r 0 m)) 21 k (f ∙ rw g) in
      rw (← e, h)

  module _ (g : t ≡ None) where
    pub plan-out : m < n → planned p r n room ≡ wrote_of (Err (record { number = 21; place = m }))
    unfolding planned arranged
    plan-out h =
        let s = is-fine (in_order_of (given p r 0 m)) (f ∙ rw g) in
        rw (← e, s.is, lt-ltb m n h)

    pub plan-all : (w : Result ℕ Refusal) → n ≤ m → summed (given p r 0 n) n (min room most_bytes) ≡ wrote_of w → planned p r n room ≡ wrote_of w
    unfolding planned arranged
    plan-all w h k =
        let b = pooled-most p r 0 n in
        let z : m ≡ n = omega arith in
        let s = is-fine (in_order_of (given p r 0 m)) (f ∙ rw g) in
        let i : in_order_of (given p r 0 n) ≡ fine s.value = subst (λ (x : ℕ). in_order_of (given p r 0 x) ≡ fine s.value) z s.is in
        rw (← e, s.is, le-ltb m n h) (in-order-sum p r n room s.value i ∙ k)

pub ruleset plans = (rules, plan-twice, plan-out, plan-all)
