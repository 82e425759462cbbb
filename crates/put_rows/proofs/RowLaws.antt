-- The laws of the rows of areas and symbols.
-- Assumes nothing.
use Prim.Native.Nat.{ℕ, zero, suc, ◌+◌, ◌*◌, ◌<◌, ◌≤◌}
use mathlib.Core.Path.{◌≡◌, refl}
use mathlib.Core.Bool.{Bool, true, false}
use mathlib.Core.List.{List, [], ◌∷◌}
use mathlib.Core.Option.{Option}
use native.Mathlib.Omega.{arith}
use lib.ListN.{set}
use lib.Seq.{sets}
use lib.Dec.{leb}
use mir.Val.{Fits}
use mir.Syntax.{w32}
use borrow.Author.Rules.{rules}
use borrow.Author.Tests.{lt-ltb, le-ltb, le-leb, lt-leb, leb-true}
use Rattle.format.specs.Lists.{pick}
use Rattle.format.specs.Rows.{flag, given, plus_one_or_zero, area_numbers, symbol_numbers}
use Rattle.format.specs.Tables.{or_zero, base, area_row, named, last_index}
use Rattle.put_rows.specs.Put.{short_of, area_put, symbol_put}

-- `put3`
pub three : (l : List ℕ) (i a b c : ℕ) {l₁ l₂ l₃ : List ℕ} → l₁ ≡ set l i a → l₂ ≡ set l₁ (i + 1) b → l₃ ≡ set l₂ (i + 2) c → l₃ ≡ sets l i (a ∷ b ∷ c ∷ [])
three l i a b c e f g =
    let m : i + 1 ≡ suc i = omega arith in
    let n : i + 2 ≡ suc (suc i) = omega arith in
    rw (g, f, e, m, n)

pub ruleset putting = (rules, three)

-- `short`
pub short-is : (n : ℕ) → n ≤ 65536 → short_of n ≡ n
unfolding short_of
short-is n h = rw (le-leb n 65536 h)

pub short-all : (n : ℕ) → n ≤ 65536 → n ≡ short_of n
unfolding short_of
short-all n h = rw (le-leb n 65536 h)

pub short-most : (n : ℕ) → 65536 < n → 65536 ≡ short_of n
unfolding short_of
short-most n h = rw (lt-leb n 65536 h)

pub ruleset shortening = (rules, short-all, short-most)

-- `put_named`: the place of a name is the sum of two such numbers
module _ (n : ℕ) where
  short-by : (b : Bool) → leb n 65536 ≡ b → pick b n 65536 ≤ 65536
  short-by true e = leb-true n 65536 e
  short-by false e = omega arith

  short-low : short_of n ≤ 65536
  unfolding short_of
  short-low = short-by (leb n 65536) refl

module _ (p a : ℕ) {v w : ℕ} (e : v ≡ short_of p) (f : w ≡ short_of a) where
  pub short-sum : Fits w32 (v + w)
  short-sum = record { fits = omega (arith, e, f, short-low p, short-low a) }

  pub name-first : (l : List ℕ) (i k next : ℕ) {u : ℕ} → u ≡ short_of k → {l₁ : List ℕ} → l₁ ≡ sets l i ((v + w) ∷ u ∷ next ∷ []) → l₁ ≡ sets l i ((short_of p + short_of a) ∷ short_of k ∷ next ∷ [])
  name-first l i k next g h = rw (h, e, f, g)

pub ruleset naming = (rules, short-sum, name-first)

last-number : (n : ℕ) → plus_one_or_zero (last_index n) ≡ n
last-number zero = refl
last-number (suc n) = refl

-- `put_area` and `put_symbol`
module _ (l : List ℕ) (row p a k : ℕ) where
  pub no-area : 64 ≤ row → (size flags : ℕ) (x : Option ℕ) → l ≡ area_put l row p a k size flags x
  unfolding area_put
  no-area h size flags x = rw (le-ltb row 64 h)

  pub no_symbol : 1024 ≤ row → (r : Bool) (value n : ℕ) → l ≡ symbol_put l row p a k r value n
  unfolding symbol_put
  no_symbol h r value n = rw (le-ltb row 1024 h)

  pub seven : row < 64 → (size flags : ℕ) (x : Option ℕ) {c d : ℕ} {l₁ l₂ l₃ : List ℕ} → l₁ ≡ sets l (7 * row) ((short_of p + short_of a) ∷ short_of k ∷ size ∷ []) → c ≡ given x → d ≡ or_zero x
      → l₂ ≡ sets l₁ (7 * row + 3) (flags ∷ c ∷ d ∷ []) → l₃ ≡ set l₂ (7 * row + 6) 0 → l₃ ≡ area_put l row p a k size flags x
  unfolding area_put area_numbers area_row named base
  seven h size flags x e i j f g =
      let m : 7 * row + 3 ≡ suc (suc (suc (7 * row))) = omega arith in
      let n : 7 * row + 6 ≡ suc (suc (suc (suc (suc (suc (7 * row)))))) = omega arith in
      rw (g, f, e, i, j, m, n, lt-ltb row 64 h)

  pub five : row < 1024 → (r : Bool) (value home : ℕ) {c o : ℕ} {l₁ l₂ l₃ : List ℕ} → l₁ ≡ sets l (5 * row) ((short_of p + short_of a) ∷ short_of k ∷ c ∷ []) → c ≡ flag r → l₂ ≡ set l₁ (5 * row + 3) value → o ≡ short_of home → l₃ ≡ set l₂ (5 * row + 4) o
      → l₃ ≡ symbol_put l row p a k r value home
  unfolding symbol_put symbol_numbers named
  five h r value home e i f j g =
      let m : 5 * row + 3 ≡ suc (suc (suc (5 * row))) = omega arith in
      let n : 5 * row + 4 ≡ suc (suc (suc (suc (5 * row)))) = omega arith in
      rw (g, f, e, i, j, m, n, lt-ltb row 1024 h, last-number (short_of home))

pub ruleset rowing = (rules, no-area, no_symbol, seven, five)
