-- Laws for the sizes of an entry given and for their sum.
-- Assumes nothing.
use Prim.Native.Nat.{ℕ, suc, ◌+◌, ◌*◌, ◌-◌, ◌^◌, ◌<◌, ◌≤◌}
use mathlib.Core.Path.{◌≡◌, refl, sym, ap, ◌∙◌}
use mathlib.Core.List.{List, ◌++◌}
use native.Mathlib.Omega.{arith}
use native.Mathlib.Numerals.{add-one}
use lib.ListN.{length, length-append, length-take, drop}
use lib.Dec.{leb}
use borrow.Author.Rules.{rules}
use borrow.Author.Tests.{le-leb, lt-leb}
use Rattle.std.specs.Prelude.{None, Some}
use Rattle.format.specs.Lists.{flat}
use Rattle.format.specs.Outcome.{fine, refused}
use Rattle.book.specs.Contents.{part, start}
use Rattle.book.specs.Entries.{body}
use Rattle.book.specs.Given.{field_at, entry_at, given, most_bytes}
use Rattle.book.proofs.Twice.{given-more, given-none}
use Rattle.book_plan.specs.Told.{summed, fit_of}

-- a part's length
part-most : (xs : List ℕ) (at n : ℕ) → length (part xs at n) ≤ n
unfolding part
part-most xs at n = omega (arith, length-take n (drop at xs))

pub size_fits : (xs : List ℕ) (from n : ℕ) {k : ℕ} {l : List ℕ} → n < 2 ^ 32 → k ≡ from → l ≡ part xs k n → length l < 2 ^ 32
size_fits xs from n {k} h a e = rw e (omega (arith, part-most xs k n))

pub size_is : (xs : List ℕ) (from n : ℕ) {k : ℕ} {l : List ℕ} → k ≡ from → l ≡ part xs k n → length l ≡ length (part xs from n)
size_is xs from n a e = rw (e, a)

-- sizes of an entry's parts, and of its body
pub name-size : (pool rows : List ℕ) (i : ℕ) {f n r : ℕ} → f ≡ field_at rows i 0 → n ≡ field_at rows i 1 → r ≡ length (part pool f n) → r ≡ length (entry_at pool rows i).name
unfolding entry_at
name-size pool rows i a b e = e ∙ rw (a, b)

pub values-size : (pool rows : List ℕ) (i : ℕ) {f n r : ℕ} → f ≡ field_at rows i 2 → n ≡ field_at rows i 4 → r ≡ length (part pool f n) → r ≡ length (entry_at pool rows i).values
unfolding entry_at
values-size pool rows i a b e = e ∙ rw (a, b)

pub masks-size : (pool rows : List ℕ) (i : ℕ) {f n r : ℕ} → f ≡ field_at rows i 3 → n ≡ field_at rows i 4 → r ≡ length (part pool f n) → r ≡ length (entry_at pool rows i).masks
unfolding entry_at
masks-size pool rows i a b e = e ∙ rw (a, b)

pub body-size : (pool rows : List ℕ) (i : ℕ) {a b c u v w : ℕ} → a ≡ length (entry_at pool rows i).name → b ≡ length (entry_at pool rows i).values → c ≡ length (entry_at pool rows i).masks → u ≡ a → v ≡ b → w ≡ c
    → u + v + w ≡ length (body (entry_at pool rows i))
unfolding body
body-size pool rows i {a} {b} {c} {u} {v} {w} p q r s t k =
    let e = entry_at pool rows i in
    let m = length-append (e.name ++ e.values) e.masks in
    let n = length-append e.name e.values in
    omega arith

pub ruleset sizes = (rules, size_fits, size_is, name-size, values-size, masks-size, body-size)

-- the sum: the first i bodies are counted
pub record Summing (p r : List ℕ) (n i to : ℕ) : Type 0 where
  pub within : i ≤ n
  pub sum : start n + length (flat body (given p r 0 n)) ≡ to + length (flat body (given p r i (n - i)))
  pub bound : to < 2 ^ 40

pub sum-start : (p r : List ℕ) {n to : ℕ} → n < 2 ^ 32 → to ≡ start n → Summing p r n 0 to
sum-start p r {n} h e = let z : n - 0 ≡ n = omega arith in record { within = omega arith; sum = rw (z, e); bound = omega arith }

module _ {p r : List ℕ} {n i to room : ℕ} (w : Summing p r n i to) where
  pub sum_over : room < to → summed (given p r 0 n) n room ≡ fit_of None
  unfolding summed
  sum_over h =
      let s = w.sum in
      let l : room < start n + length (flat body (given p r 0 n)) = omega arith in
      rw (lt-leb (start n + length (flat body (given p r 0 n))) room l)

  pub sum_more : {b : ℕ} → i < n → room ≤ most_bytes → to ≤ room → b ≡ length (body (entry_at p r i)) → b ≤ 3 * 2 ^ 32 → Summing p r n (i + 1) (to + b)
  unfolding flat
  sum_more h l k e f = record {
    within = omega arith;
    sum = w.sum ∙ rw (given-more p r i n h, length-append, add-one, e) (omega arith);
    bound = omega arith;
  }

  pub sum-end : n ≤ i → to ≤ room → summed (given p r 0 n) n room ≡ fit_of (Some to)
  unfolding summed flat
  sum-end h k =
      let s : start n + length (flat body (given p r 0 n)) ≡ to = w.sum ∙ (rw (given-none p r i n h) (omega arith)) in
      rw (s, le-leb to room k)

pub ruleset sums = (rules, sum-start, sum_over, sum_more, sum-end)
