-- The tests of the rows of areas and symbols.
-- Assumes nothing.
use Prim.Native.Nat.{suc, ℕ, ◌*◌, ◌+◌, ◌-◌, ◌<◌, ◌≤◌}
use mathlib.Core.Path.{◌≡◌, ap, refl, sym, ◌∙◌}
use mathlib.Core.Bool.{Bool, false, true, not}
use mathlib.Core.List.{List}
use native.Mathlib.Omega.{arith}
use lib.ListN.{get_or}
use lib.Dec.{leb, ltb}
use borrow.Author.Rules.{rules}
use borrow.Author.Tests.{le-leb, le-ltb, lt-leb, lt-ltb}
use Rattle.format.specs.Lists.{pick}
use Rattle.laws.specs.Rows.{area_at, symbol_at}
use Rattle.row_parts.specs.Parts.{name_in}
use Rattle.row_texts.specs.RowRecords.{column}
use Rattle.row_texts.specs.GoodRows.{all, good_area, good_name, good_symbols}
use Rattle.good_names.proofs.Passing.{was-no, was-yes, Passing, pass-start, pass-end, pass-more, pass-bad}

-- `areas_good`
pub record Areas (t s : List ℕ) (n i : ℕ) : Type 0 where
  pub passing : Passing (good_area t s) 0 n i

pub areas-start : (t s : List ℕ) (n : ℕ) → Areas t s n 0
areas-start t s n = record { passing = pass-start (good_area t s) 0 n }

module _ {t s : List ℕ} {n i : ℕ} (x : Areas t s n i) where
  pub areas-end : n ≤ i → true ≡ all (good_area t s) 0 n
  areas-end h = pass-end x.passing h

  module _ {w : List ℕ} (f : w ≡ name_in t (area_at s i).name) {b : Bool} (e : b ≡ good_name w) (h : i < n) where
    here : b ≡ good_area t s (0 + i)
    unfolding good_area
    here = let z : 0 + i ≡ i = omega arith in e ∙ (ap good_name f ∙ ap (λ (k : ℕ). good_name (name_in t (area_at s k).name)) (sym z))

    pub areas-more : not b ≡ false → Areas t s n (i + 1)
    areas-more g = record { passing = pass-more x.passing here h (was-yes b g) }

    pub areas-bad : not b ≡ true → false ≡ all (good_area t s) 0 n
    areas-bad g = pass-bad x.passing here h (was-no b g)

pub ruleset areas = (rules, areas-start, areas-end, areas-more, areas-bad)

-- `symbols_good`
pub record Symbols (t : List ℕ) (c : ℕ) (s : List ℕ) (n k j : ℕ) : Type 0 where
  pub within : j ≤ n
  pub rest : good_symbols t c s 0 0 n ≡ good_symbols t c s k j (n - j)

pub symbols-start : (t : List ℕ) (c : ℕ) (s : List ℕ) (n : ℕ) → Symbols t c s n 0 0
symbols-start t c s n = let y : n - 0 ≡ n = omega arith in record { within = omega arith; rest = sym (ap (λ (x : ℕ). good_symbols t c s 0 0 x) y) }

module _ {t : List ℕ} {c : ℕ} {s : List ℕ} {n k j : ℕ} (x : Symbols t c s n k j) where
  pub symbols-end : n ≤ j → leb k c ≡ good_symbols t c s 0 0 n
  unfolding good_symbols
  symbols-end h = let z : n - j ≡ 0 = omega arith in sym (x.rest ∙ ap (λ (y : ℕ). good_symbols t c s k j y) z)

  module _ (h : j < n) {q m : ℕ} (u : q ≡ get_or s (5 * j + 4) 0) (v : m ≡ q) where
    is-column : m ≡ column s j
    unfolding column
    is-column = v ∙ u

    turn-symbol : good_symbols t c s k j (n - j) ≡ pick (leb k m) (pick (good_name (name_in t (symbol_at s j).name)) (good_symbols t c s m (j + 1) (n - (j + 1))) false) false
    unfolding good_symbols
    turn-symbol =
        let z : n - j ≡ suc (n - (j + 1)) = omega arith in
        let y : suc j ≡ j + 1 = omega arith in
        ap (λ (a : ℕ). good_symbols t c s k j a) z
        ∙ (ap (λ (a : ℕ). pick (leb k (column s j)) (pick (good_name (name_in t (symbol_at s j).name)) (good_symbols t c s (column s j) a (n - (j + 1))) false) false) y
        ∙ ap (λ (a : ℕ). pick (leb k a) (pick (good_name (name_in t (symbol_at s j).name)) (good_symbols t c s a (j + 1) (n - (j + 1))) false) false) (sym is-column))

    pub symbols-back : m < k → false ≡ good_symbols t c s 0 0 n
    symbols-back l = sym (x.rest ∙ (turn-symbol ∙ rw (lt-leb k m l)))

    module _ (l : k ≤ m) {w : List ℕ} (f : w ≡ name_in t (symbol_at s j).name) {b : Bool} (e : b ≡ good_name w) where
      named : good_name (name_in t (symbol_at s j).name) ≡ b
      named = sym (e ∙ ap good_name f)

      pub symbols-bad : not b ≡ true → false ≡ good_symbols t c s 0 0 n
      symbols-bad g = sym (x.rest ∙ (turn-symbol ∙ rw (le-leb k m l, named, was-no b g)))

      pub symbols-more : not b ≡ false → Symbols t c s n m (j + 1)
      symbols-more g = record { within = omega arith; rest = x.rest ∙ (turn-symbol ∙ rw (le-leb k m l, named, was-yes b g)) }

pub ruleset symbols = (rules, symbols-start, symbols-end, symbols-back, symbols-bad, symbols-more)
