-- The rows of the symbols that stay.
-- Assumes nothing.
use Prim.Native.Nat.{min, suc, zero, ℕ, ◌*◌, ◌+◌, ◌<◌, ◌≤◌}
use mathlib.Core.Path.{◌≡◌, ap, refl, sym, ◌∙◌}
use mathlib.Core.Bool.{Bool, false, true}
use mathlib.Core.List.{List, [], ◌++◌, ◌∷◌}
use native.Mathlib.Omega.{arith}
use native.Mathlib.Numerals.{add-one}
use lib.ListN.{get_or, length, length-append, take}
use lib.Seq.{sets}
use lib.Dec.{eqb}
use borrow.Author.Rules.{rules}
use borrow.Author.Tests.{eq-eqb, ne_eqb}
use Rattle.format.specs.Lists.{pick}
use Rattle.cells.proofs.Laws.{sets-append}
use Rattle.kept_symbols.specs.Staying.{Kept, KeptRows, staying, staying_rows, stays, symbol_row}

-- `put_row`
pub row_put : (out : List ℕ) (k : ℕ) (symbols : List ℕ) (j : ℕ) {a b c d e : ℕ} → a ≡ get_or symbols (5 * j + 0) 0 → b ≡ get_or symbols (5 * j + 1) 0 → c ≡ get_or symbols (5 * j + 2) 0
    → d ≡ get_or symbols (5 * j + 3) 0 → e ≡ get_or symbols (5 * j + 4) 0 → {out' : List ℕ} → out' ≡ sets out (5 * k) (take 5 (a ∷ b ∷ c ∷ d ∷ e ∷ [])) → out' ≡ sets out (5 * k) (symbol_row symbols j)
unfolding symbol_row
row_put out k symbols j p q r s t e = let z : 5 * j + 0 ≡ 5 * j = omega arith in e ∙ rw (p, q, r, s, t, z)

pub ruleset putting = (rules, row_put)

-- `keep_one`
module _ (symbols flags : List ℕ) (j k : ℕ) (out : List ℕ) {b : ℕ} (e : b ≡ get_or flags j 0) where
  pub keep-goes : b ≡ 1 → Kept symbols flags j k out k out
  unfolding stays
  keep-goes h = let z = eq-eqb (get_or flags j 0) 1 (sym e ∙ h) in record { count = rw z (omega arith); stored = rw z }

  pub keep-stays : (b ≡ 1 → ⊥) → {out' : List ℕ} → out' ≡ sets out (5 * k) (symbol_row symbols j) → Kept symbols flags j k out (k + 1) out'
  unfolding stays
  keep-stays h d = let z = ne_eqb (get_or flags j 0) 1 (λ i. h (e ∙ i)) in record { count = rw z; stored = d ∙ rw z }

pub ruleset keeping = (rules, keep-goes, keep-stays)

-- `keep_rows`
rows_long : (flags symbols : List ℕ) (j : ℕ) → length (staying_rows flags symbols j) ≡ 5 * staying flags j
unfolding staying_rows staying stays symbol_row
rows_long flags symbols zero = refl
rows_long flags symbols (suc j) = go (eqb (get_or flags j 0) 1) (rows_long flags symbols j)
  where
    go : (t : Bool) → length (staying_rows flags symbols j) ≡ 5 * staying flags j → length (staying_rows flags symbols j ++ pick t [] (symbol_row symbols j)) ≡ 5 * (staying flags j + pick t 0 1)
    go true r = length-append (staying_rows flags symbols j) [] ∙ omega (arith, r)
    go false r = length-append (staying_rows flags symbols j) (symbol_row symbols j) ∙ omega (arith, r)

stays-one : (flags : List ℕ) (j : ℕ) → stays flags j ≤ 1
unfolding stays
stays-one flags j = go (eqb (get_or flags j 0) 1)
  where
    go : (t : Bool) → pick t 0 1 ≤ 1
    go true = omega arith
    go false = omega arith

next-staying : (flags : List ℕ) (j : ℕ) → staying flags j + stays flags j ≡ staying flags (j + 1)
unfolding staying
next-staying flags j = sym (ap (staying flags) (add-one j))

abbrev row_if : (flags symbols : List ℕ) → ℕ → List ℕ
row_if flags symbols j = pick (eqb (get_or flags j 0) 1) [] (symbol_row symbols j)

next-rows : (flags symbols : List ℕ) (j : ℕ) → staying_rows flags symbols j ++ row_if flags symbols j ≡ staying_rows flags symbols (j + 1)
unfolding staying_rows
next-rows flags symbols j = sym (ap (staying_rows flags symbols) (add-one j))

pub record Keeping (symbols flags : List ℕ) (n : ℕ) (old out : List ℕ) (k j : ℕ) : Type 0 where
  pub within : j ≤ n
  pub low : n ≤ 1024
  pub few : k ≤ j
  pub is : k ≡ staying flags j
  pub stored : out ≡ sets old 0 (staying_rows flags symbols j)
  pub long : length out ≡ length old

pub keep-start : (symbols flags : List ℕ) (n m : ℕ) (old : List ℕ) → m ≡ min n 1024 → Keeping symbols flags m old old 0 0
unfolding staying staying_rows
keep-start symbols flags n m old e = record { within = omega arith; low = omega arith; few = omega arith; is = refl; stored = refl; long = refl }

module _ {symbols flags : List ℕ} {n : ℕ} {old out : List ℕ} {k j : ℕ} (w : Keeping symbols flags n old out k j) where
  pub keep_low : k ≤ 1024
  keep_low = omega (arith, w.few, w.within, w.low)

  pub keep-more : j < n → {k' : ℕ} {out' : List ℕ} → length out' ≡ length out → Kept symbols flags j k out k' out' → Keeping symbols flags n old out' k' (j + 1)
  keep-more h {k'} {out'} l v =
      let z : 5 * k ≡ 0 + length (staying_rows flags symbols j) = omega (arith, w.is, rows_long flags symbols j) in
      record {
        within = omega arith;
        low = w.low;
        few = omega (arith, w.few, v.count, stays-one flags j);
        is = v.count ∙ (ap (λ (m : ℕ). m + stays flags j) w.is ∙ next-staying flags j);
        stored =
            v.stored
            ∙ (ap (λ (x : List ℕ). sets x (5 * k) (row_if flags symbols j)) w.stored
            ∙ (ap (λ (m : ℕ). sets (sets old 0 (staying_rows flags symbols j)) m (row_if flags symbols j)) z
            ∙ (sym (sets-append old 0 (staying_rows flags symbols j) (row_if flags symbols j)) ∙ ap (sets old 0) (next-rows flags symbols j))));
        long = l ∙ w.long;
      }

  pub keep-end : n ≤ j → KeptRows symbols flags n old k out
  keep-end h =
      let z : j ≡ n = omega (arith, w.within) in
      record { counted = w.is ∙ ap (staying flags) z; stored = w.stored ∙ ap (λ (m : ℕ). sets old 0 (staying_rows flags symbols m)) z }

pub kept-least : {symbols flags : List ℕ} (n : ℕ) {m : ℕ} {old out : List ℕ} {k : ℕ} → m ≡ min n 1024 → KeptRows symbols flags m old k out → KeptRows symbols flags (min n 1024) old k out
kept-least n e v = rw (← e) v

pub ruleset keeps = (rules, keep-start, keep_low, keep-more, keep-end, kept-least)
