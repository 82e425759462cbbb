-- What the proofs of the functions share: a law for each return, and the loop's invariant.
-- Assumes nothing.
use Prim.Native.Nat.{ℕ, suc, min, ◌+◌, ◌-◌, ◌*◌, ◌≤◌, ◌<◌}
use mathlib.Core.Path.{◌≡◌, refl, ap, sym, ◌∙◌}
use mathlib.Core.Bool.{Bool, true, false}
use mathlib.Core.List.{List}
use native.Mathlib.Nat.{add-zero}
use native.Mathlib.Numerals.{add-one}
use native.Mathlib.Omega.{arith}
use mir.Val.{Fits}
use mir.Syntax.{w64}
use lib.ListN.{length, get_or, set, get_or-eq_default}
use lib.Seq.{sets}
use lib.Dec.{leb}
use borrow.Author.Rules.{rules}
use borrow.Author.Tests.{leb-true, leb-false}
use Rattle.laws.specs.Rows.{from}
use Rattle.record_rows.specs.RecordRows.{fragment_columns}
use Rattle.record_parts.specs.Columns.{line_from, cell, column, Three, ThreeAt}

-- `line_at`
module _ (rows : List ℕ) (p : ℕ) (big : Bool) (width : ℕ) where
  pub line-past : length rows ≤ p → record { big = big; width = width; place = 0; address = 0; bytes = 0; fragments = 0; area = 0 } ≡ line_from rows p big width
  unfolding line_from
  line-past h =
      let past : (c : ℕ) → get_or rows (p + c) 0 ≡ 0 = λ c. get_or-eq_default rows 0 {n = p + c} (omega arith) in
      let first : get_or rows p 0 ≡ 0 = get_or-eq_default rows 0 {n = p} h in
      λ j. record { big = big; width = width; place = sym first j; address = sym (past 1) j; bytes = sym (past 4) j; fragments = sym (past 6) j; area = sym (past 2) j }

  pub line-in : {a b c d e f g h i : ℕ} → a ≡ get_or rows p 0 → b ≡ a → c ≡ get_or rows (p + 1) 0 → d ≡ get_or rows (p + 4) 0 → e ≡ d → f ≡ get_or rows (p + 6) 0 → g ≡ f → h ≡ get_or rows (p + 2) 0 → i ≡ h
      → record { big = big; width = width; place = b; address = c; bytes = e; fragments = g; area = i } ≡ line_from rows p big width
  unfolding line_from
  line-in ea eb ec ed ee ef eg eh ei = rw (eb, ea, ec, ee, ed, eg, ef, ei, eh)

pub ruleset lining = (rules, line-past, line-in)

-- `put_row`
pub row_put : (rows : List ℕ) (p i : ℕ) {ms es xs ms' es' xs' : List ℕ} {a b c : ℕ} → a ≡ get_or rows p 0 → ms' ≡ set ms i a → b ≡ get_or rows (p + 1) 0 → es' ≡ set es i b → c ≡ get_or rows (p + 2) 0 → xs' ≡ set xs i c
    → ThreeAt rows p i ms es xs ms' es' xs'
row_put rows p i ea em eb ee ec ex = record { modes = rw (← ea) em; entries = rw (← eb) ee; indexes = rw (← ec) ex }

pub ruleset putting = (rules, row_put)

-- `columns_at`: the first i of k rows are stored, and the next begins at q
pub record Columning (rows : List ℕ) (p n k : ℕ) (ms₀ es₀ xs₀ ms es xs : List ℕ) (q i : ℕ) : Type 0 where
  pub all : k ≡ min n 64
  pub inside : i ≤ k
  pub place : q ≡ min p (length rows) + fragment_columns * i
  pub modes : sets ms₀ 0 (column rows p 0 k) ≡ sets ms i (from (cell rows p 0) i (k - i))
  pub entries : sets es₀ 0 (column rows p 1 k) ≡ sets es i (from (cell rows p 1) i (k - i))
  pub indexes : sets xs₀ 0 (column rows p 2 k) ≡ sets xs i (from (cell rows p 2) i (k - i))

pub columns-start : (rows : List ℕ) (p n : ℕ) (ms es xs : List ℕ) {k q : ℕ} → k ≡ min n 64 → q ≡ min p (length rows) → Columning rows p n k ms es xs ms es xs q 0
unfolding column
columns-start rows p n ms es xs {k} e f = let z : k - 0 ≡ k = omega arith in record { all = e; inside = omega arith; place = omega arith; modes = rw z; entries = rw z; indexes = rw z }

-- a number of the row at q, which may lie past the end
cell-is : (rows : List ℕ) (p q i c : ℕ) → q ≡ min p (length rows) + fragment_columns * i → get_or rows (q + c) 0 ≡ cell rows p c i
unfolding cell
cell-is rows p q i c e = go (leb p (length rows)) refl
  where
    go : (b : Bool) → leb p (length rows) ≡ b → get_or rows (q + c) 0 ≡ get_or rows (p + fragment_columns * i + c) 0
    go true h = let l : p ≤ length rows = leb-true p (length rows) h in ap (λ (n : ℕ). get_or rows n 0) (omega arith)
    go false h =
        let l : length rows < p = leb-false p (length rows) h in
        get_or-eq_default rows 0 {n = q + c} (omega arith) ∙ sym (get_or-eq_default rows 0 {n = p + fragment_columns * i + c} (omega arith))

module _ {rows : List ℕ} {p n k : ℕ} {ms₀ es₀ xs₀ ms es xs : List ℕ} {q i : ℕ} (w : Columning rows p n k ms₀ es₀ xs₀ ms es xs q i) where
  pub columns-end : k ≤ i → Three rows p (min n 64) ms₀ es₀ xs₀ ms es xs
  unfolding from
  columns-end h = let z : k - i ≡ 0 = omega arith in record {
    modes = rw (← w.all) (sym (w.modes ∙ rw z));
    entries = rw (← w.all) (sym (w.entries ∙ rw z));
    indexes = rw (← w.all) (sym (w.indexes ∙ rw z));
  }

  module _ (h : i < k) where
    pub columns-low : q ≤ length rows + 192
    columns-low = omega (arith, w.all, w.place)

    pub columns-next : length rows < 4611686018427387904 → Fits w64 (q + 3)
    columns-next l = record { fits = omega (arith, w.all, w.place) }

    one_more : (c : ℕ) (ys : List ℕ) → sets ys i (from (cell rows p c) i (k - i)) ≡ sets (set ys i (get_or rows (q + c) 0)) (suc i) (from (cell rows p c) (suc i) (k - suc i))
    unfolding from
    one_more c ys =
        let z : k - i ≡ suc (k - suc i) = omega arith in
        ap (λ (m : ℕ). sets ys i (from (cell rows p c) i m)) z ∙ ap (λ (v : ℕ). sets (set ys i v) (suc i) (from (cell rows p c) (suc i) (k - suc i))) (sym (cell-is rows p q i c w.place))

    pub columns-more : {ms' es' xs' : List ℕ} → ThreeAt rows q i ms es xs ms' es' xs' → Columning rows p n k ms₀ es₀ xs₀ ms' es' xs' (q + 3) (i + 1)
    columns-more t = record {
      all = w.all;
      inside = omega arith;
      place = omega (arith, w.place);
      modes = w.modes ∙ (one_more 0 ms ∙ rw (add-one, add-zero, t.modes));
      entries = w.entries ∙ (one_more 1 es ∙ rw (add-one i, t.entries));
      indexes = w.indexes ∙ (one_more 2 xs ∙ rw (add-one i, t.indexes));
    }

pub ruleset columns = (rules, columns-start, columns-end, columns-low, columns-next, columns-more)
