-- What the proofs share: a law for each return, and the loops' invariants.
-- Assumes nothing.
use Prim.Native.Nat.{ℕ, zero, suc, min, ◌+◌, ◌-◌, ◌*◌, ◌≤◌, ◌<◌}
use mathlib.Core.Path.{◌≡◌, refl, ap, sym, ◌∙◌}
use mathlib.Core.Bool.{true, false}
use mathlib.Core.List.{List}
use native.Mathlib.Numerals.{add-one}
use native.Mathlib.Omega.{arith}
use mir.Val.{Fits}
use mir.Syntax.{w64}
use lib.Dec.{eqb}
use lib.ListN.{get_or}
use borrow.Author.Rules.{rules}
use borrow.Author.Tests.{eq-eqb, ne_eqb}
use Rattle.format.specs.Lists.{pick}
use Rattle.format.specs.Fixups.{Fixup}
use Rattle.format.specs.Mode.{Class, class_number, class_number_of, class_of}
use Rattle.laws.specs.Rows.{fixup_from, fixup_row, fixups_in, from, known_at}
use Rattle.laws.proofs.Areas.{one_at_most}
use Rattle.mode.specs.Class.{told_class}
use Rattle.mode.specs.declared.class.JumpType.{JumpType}
use Rattle.figures.specs.Figures.{class_count, classes_of, known_in, sum}
use Rattle.figures.specs.declared.Classes.{Classes}

-- `one_if`
module _ (rows : List ℕ) (j class : ℕ) {m : ℕ} (em : m ≡ get_or rows (9 * j + 3) 0) (c : JumpType) (ec : told_class c ≡ class_of m) {x : ℕ} (ex : x ≡ class_number (told_class c)) where
  number_is : class_number_of (fixup_row rows j).mode ≡ x
  unfolding class_number_of fixup_row fixup_from
  number_is = sym (ex ∙ (ap class_number ec ∙ ap (λ (y : ℕ). class_number (class_of y)) em))

  pub is_one : x ≡ class → ◌≡◌ {A = ℕ} 1 (pick (eqb (class_number_of (fixup_row rows j).mode) class) 1 0)
  is_one h = rw (number_is, eq-eqb x class h)

  pub is_none : (x ≡ class → ⊥) → ◌≡◌ {A = ℕ} 0 (pick (eqb (class_number_of (fixup_row rows j).mode) class) 1 0)
  is_none h = rw (number_is, ne_eqb x class h)

pub ruleset one = (rules, is_one, is_none)

-- `count`
pub record Counting (rows : List ℕ) (n class many j : ℕ) : Type 0 where
  pub inside : j ≤ n
  pub low : many ≤ j
  pub rest : class_count class (fixups_in rows n) ≡ many + class_count class (from (fixup_row rows) j (n - j))

pub count-start : (rows : List ℕ) (n class : ℕ) → Counting rows n class 0 0
unfolding fixups_in
count-start rows n class = let z : n - 0 ≡ n = omega arith in record { inside = omega arith; low = omega arith; rest = rw z (omega arith) }

module _ {rows : List ℕ} {n class many j : ℕ} (w : Counting rows n class many j) where
  pub count-end : n ≤ j → many ≡ class_count class (fixups_in rows n)
  unfolding class_count from
  count-end h = let z : n - j ≡ 0 = omega arith in let e : class_count class (from (fixup_row rows) j (n - j)) ≡ 0 = rw z in omega (arith, w.rest)

  module _ (h : j < n) {x : ℕ} (e : x ≡ pick (eqb (class_number_of (fixup_row rows j).mode) class) 1 0) where
    next : class_count class (from (fixup_row rows) j (n - j)) ≡ x + class_count class (from (fixup_row rows) (suc j) (n - suc j))
    unfolding class_count from
    next = let z : n - j ≡ suc (n - suc j) = omega arith in ap (λ (m : ℕ). class_count class (from (fixup_row rows) j m)) z ∙ rw e

    pub count_fits : n < 18446744073709551616 → Fits w64 (many + x)
    count_fits m = record { fits = omega (arith, w.low, e, one_at_most (eqb (class_number_of (fixup_row rows j).mode) class)) }

    pub count-more : Counting rows n class (many + x) (j + 1)
    count-more = record { inside = omega arith; low = omega (arith, w.low, e, one_at_most (eqb (class_number_of (fixup_row rows j).mode) class)); rest = rw add-one (omega (arith, w.rest, next)) }

pub ruleset counting = (rules, count-start, count-end, count_fits, count-more)

-- `classes_in`
pub by-class : (fs : List Fixup) {a b c d e : ℕ} → a ≡ class_count 0 fs → b ≡ class_count 1 fs → c ≡ class_count 2 fs → d ≡ class_count 3 fs → e ≡ class_count 4 fs
    → record { addr19 = a; addr11 = b; addr24 = c; addr16 = d; byte = e } ≡ classes_of fs
unfolding classes_of
by-class fs p q r s t = rw (p, q, r, s, t)

pub ruleset classes = (rules, by-class)

-- `known_in`: bits are those of the first j areas
pub record Adding (rows : List ℕ) (k bits j : ℕ) : Type 0 where
  pub inside : j ≤ k
  pub low : bits ≤ j * 4294967295
  pub rest : known_in rows k ≡ bits + sum (from (known_at rows) j (k - j))

pub add_start : (rows : List ℕ) (k : ℕ) → Adding rows k 0 0
unfolding known_in
add_start rows k = let z : k - 0 ≡ k = omega arith in record { inside = omega arith; low = omega arith; rest = rw z (omega arith) }

module _ {rows : List ℕ} {k bits j : ℕ} (w : Adding rows k bits j) where
  pub add-end : k ≤ j → (n : ℕ) → k ≡ min n 64 → bits ≡ known_in rows (min n 64)
  unfolding sum from
  add-end h n e = let z : k - j ≡ 0 = omega arith in let y : sum (from (known_at rows) j (k - j)) ≡ 0 = rw z in let x : bits ≡ known_in rows k = omega (arith, w.rest) in x ∙ ap (known_in rows) e

  module _ (h : j < k) {v x : ℕ} (ev : v ≡ known_at rows j) (ex : x ≡ v) (small : v < 4294967296) where
    next-bits : sum (from (known_at rows) j (k - j)) ≡ x + sum (from (known_at rows) (suc j) (k - suc j))
    unfolding sum from
    next-bits = let z : k - j ≡ suc (k - suc j) = omega arith in ap (λ (m : ℕ). sum (from (known_at rows) j m)) z ∙ rw (ex, ev)

    pub add-fits : (n : ℕ) → k ≡ min n 64 → Fits w64 (bits + x)
    add-fits n e = record { fits = omega (arith, w.low, w.inside, e) }

    pub add-more : Adding rows k (bits + x) (j + 1)
    add-more = record { inside = omega arith; low = omega (arith, w.low); rest = rw add-one (omega (arith, w.rest, next-bits)) }

pub ruleset adding = (rules, add_start, add-end, add-fits, add-more)
