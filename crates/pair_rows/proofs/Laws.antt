-- The laws of the rows of T and R records, one pair more at a time.
-- Assumes nothing.
use Prim.Native.Nat.{ℕ, suc, zero, ◌*◌, ◌+◌, ◌-◌, ◌<◌, ◌≤◌}
use mathlib.Core.Path.{◌≡◌, ap, refl, sym, ◌∙◌}
use mathlib.Core.Bool.{Bool, false, not, true, ◌&&◌}
use mathlib.Core.List.{List, [], ◌∷◌}
use native.Mathlib.Omega.{arith}
use native.Mathlib.Nat.{add-zero, suc-sub-suc}
use lib.ListN.{get_or, length, set, take}
use lib.Seq.{length-sets, sets}
use lib.Dec.{leb}
use borrow.Author.Rules.{rules}
use borrow.Author.Tests.{le-leb, leb-true, lt-leb}
use Rattle.format.specs.Lists.{flat}
use Rattle.format.specs.Pairs.{Fragment}
use Rattle.laws.specs.Rows.{from}
use Rattle.scan.proofs.Laws.Tests.{was-no, was-yes}
use Rattle.cells.proofs.Laws.{sets-append}
use Rattle.sites.specs.Columns.{fragment_at, fragments_in}
use Rattle.record_rows.specs.RecordRows.{fragment_columns, fragment_numbers, pair_columns}
use Rattle.record_rows.specs.ReadPairs.{HeldPairs}
use Rattle.pair_rows.specs.Rows.{held}
use Rattle.pair_rows.specs.Rows.{Low, StoredOne, Stores, counted, is_low, line_numbers, room_for}
use Rattle.pair_rows.specs.declared.PairCounts.{PairCounts}
use Rattle.pair_rows.specs.declared.PairLine.{PairLine}

-- numbers behind each other
pub three : (l : List ℕ) (i a b c : ℕ) {l₁ l₂ l₃ : List ℕ} → l₁ ≡ set l i a → l₂ ≡ set l₁ (i + 1) b → l₃ ≡ set l₂ (i + 2) c → l₃ ≡ sets l i (a ∷ b ∷ c ∷ [])
three l i a b c e f g =
    let m : i + 1 ≡ suc i = omega arith in
    let n : i + 2 ≡ suc (suc i) = omega arith in
    rw (g, f, e, m, n)

pub four : (l : List ℕ) (i a b c d : ℕ) {l₁ l₂ : List ℕ} → l₁ ≡ sets l i (a ∷ b ∷ c ∷ []) → l₂ ≡ set l₁ (i + 3) d → l₂ ≡ sets l i (a ∷ b ∷ c ∷ d ∷ [])
four l i a b c d e f = let m : i + 3 ≡ suc (suc (suc i)) = omega arith in rw (f, e, m)

pub ruleset putting = (rules, three, four)

-- `put_pair`
pub seven : (l : List ℕ) (n : PairCounts) (x : PairLine) {l₁ l₂ : List ℕ} → l₁ ≡ sets l (7 * n.pairs) (x.place ∷ x.address ∷ x.area ∷ [])
    → l₂ ≡ sets l₁ (7 * n.pairs + 3) (n.content ∷ x.bytes ∷ n.fragments ∷ x.fragments ∷ []) → l₂ ≡ sets l (pair_columns * n.pairs) (line_numbers n x)
seven l n x e f = let m : 7 * n.pairs + 3 ≡ suc (suc (suc (7 * n.pairs))) = omega arith in rw (f, e, m)

pub ruleset rowing = (rules, seven)

-- `put_fragment`
pub one-fragment : (l : List ℕ) (at i : ℕ) (ms es xs : List ℕ) {m e x : ℕ} → m ≡ get_or ms i 0 → e ≡ get_or es i 0 → x ≡ get_or xs i 0 → {l' : List ℕ} → l' ≡ sets l at (m ∷ e ∷ x ∷ [])
    → l' ≡ sets l at (fragment_numbers (fragment_at ms es xs i))
unfolding fragment_numbers fragment_at
one-fragment l at i ms es xs p q r e = e ∙ rw (p, q, r)

pub ruleset fragmenting = (rules, one-fragment)

-- `put_fragments`: the rest of the columns behind those that are stored
pub record Columned (l₀ : List ℕ) (at n : ℕ) (ms es xs l : List ℕ) (i : ℕ) : Type 0 where
  pub inside : i ≤ n
  pub long : length l ≡ length l₀
  pub rest : sets l₀ at (flat fragment_numbers (fragments_in ms es xs n)) ≡ sets l (at + 3 * i) (flat fragment_numbers (from (fragment_at ms es xs) i (n - i)))

pub column-start : (l : List ℕ) (at n : ℕ) (ms es xs : List ℕ) → Columned l at n ms es xs l 0
unfolding fragments_in
column-start l at n ms es xs =
    let z : n ≡ n - 0 = omega arith in
    record {
      inside = omega arith;
      long = refl;
      rest = ap (λ (k : ℕ). sets l k (flat fragment_numbers (from (fragment_at ms es xs) 0 n))) (sym (add-zero at)) ∙ ap (λ (m : ℕ). sets l (at + 0) (flat fragment_numbers (from (fragment_at ms es xs) 0 m))) z;
    }

module _ {l₀ : List ℕ} {at n : ℕ} {ms es xs l : List ℕ} {i : ℕ} (w : Columned l₀ at n ms es xs l i) where
  pub column-more : i < n → {l' : List ℕ} → l' ≡ sets l (at + 3 * i) (fragment_numbers (fragment_at ms es xs i)) → Columned l₀ at n ms es xs l' (i + 1)
  unfolding from flat fragment_numbers
  column-more h {l'} e =
      let g = fragment_at ms es xs in
      let k : n - i ≡ suc (n - (i + 1)) = omega arith in
      let j : at + 3 * (i + 1) ≡ suc (suc (suc (at + 3 * i))) = omega arith in
      let s : suc i ≡ i + 1 = omega arith in
      record {
        inside = omega arith;
        long = ap length e ∙ (length-sets l (at + 3 * i) (fragment_numbers (g i)) ∙ w.long);
        rest = w.rest ∙ (ap (λ (m : ℕ). sets l (at + 3 * i) (flat fragment_numbers (from g i m))) k ∙ rw (e, j, s));
      }

  pub column-end : n ≤ i → l ≡ sets l₀ at (flat fragment_numbers (fragments_in ms es xs n))
  unfolding from flat
  column-end h = let k : n - i ≡ 0 = omega arith in sym (w.rest ∙ ap (λ (m : ℕ). sets l (at + 3 * i) (flat fragment_numbers (from (fragment_at ms es xs) i m))) k)

pub ruleset columning = (rules, column-start, column-more, column-end)

-- `has_room`
module _ (p c f : ℕ) where
  pub room-1 : p < 28672 → false ≡ room_for p c f
  unfolding room_for
  room-1 h = rw (lt-leb 28672 p h)

  module _ (h : 28672 ≤ p) where
    pub room-2 : c < 32768 → false ≡ room_for p c f
    unfolding room_for
    room-2 i = rw (le-leb 28672 p h, lt-leb 32768 c i)

    pub room-3 : 32768 ≤ c → leb 24576 f ≡ room_for p c f
    unfolding room_for
    room-3 i = rw (le-leb 28672 p h, le-leb 32768 c i)

pub ruleset rooming = (rules, room-1, room-2, room-3)

-- `is_low`
module _ (n : PairCounts) (l : PairLine) where
  pub low-1 : 65536 < n.pairs → false ≡ is_low n l
  unfolding is_low
  low-1 h = rw (lt-leb n.pairs 65536 h)

  module _ (a : n.pairs ≤ 65536) where
    pub low-2 : 16777216 < n.content → false ≡ is_low n l
    unfolding is_low
    low-2 h = rw (le-leb n.pairs 65536 a, lt-leb n.content 16777216 h)

    module _ (b : n.content ≤ 16777216) where
      pub low-3 : 4194304 < n.fragments → false ≡ is_low n l
      unfolding is_low
      low-3 h = rw (le-leb n.pairs 65536 a, le-leb n.content 16777216 b, lt-leb n.fragments 4194304 h)

      module _ (c : n.fragments ≤ 4194304) where
        pub low-4 : 65536 < l.place → false ≡ is_low n l
        unfolding is_low
        low-4 h = rw (le-leb n.pairs 65536 a, le-leb n.content 16777216 b, le-leb n.fragments 4194304 c, lt-leb l.place 65536 h)

        module _ (d : l.place ≤ 65536) where
          pub low-5 : 256 < l.bytes → false ≡ is_low n l
          unfolding is_low
          low-5 h = rw (le-leb n.pairs 65536 a, le-leb n.content 16777216 b, le-leb n.fragments 4194304 c, le-leb l.place 65536 d, lt-leb l.bytes 256 h)

          pub low-6 : l.bytes ≤ 256 → leb l.fragments 64 ≡ is_low n l
          unfolding is_low
          low-6 h = rw (le-leb n.pairs 65536 a, le-leb n.content 16777216 b, le-leb n.fragments 4194304 c, le-leb l.place 65536 d, le-leb l.bytes 256 h)

pub ruleset lowness = (rules, low-1, low-2, low-3, low-4, low-5, low-6)

both_true : (x y : Bool) → (x && y) ≡ true → (x ≡ true) × (y ≡ true)
both_true true y h = (refl, h)
both_true false y h = absurd (let z : ◌≡◌ {A = ℕ} 0 1 = cc in omega arith)

-- what the test says, and when it says so
low-says : (n : PairCounts) (l : PairLine) → is_low n l ≡ true → Low n l
unfolding is_low
low-says n l h =
    let a = both_true _ (leb l.fragments 64) h in
    let b = both_true _ (leb l.bytes 256) a.0 in
    let c = both_true _ (leb l.place 65536) b.0 in
    let d = both_true _ (leb n.fragments 4194304) c.0 in
    let e = both_true (leb n.pairs 65536) (leb n.content 16777216) d.0 in
    record {
      pairs = leb-true n.pairs 65536 e.0;
      content = leb-true n.content 16777216 e.1;
      fragments = leb-true n.fragments 4194304 d.1;
      place = leb-true l.place 65536 c.1;
      bytes = leb-true l.bytes 256 b.1;
      few = leb-true l.fragments 64 a.1;
    }

says-low : (n : PairCounts) (l : PairLine) → Low n l → is_low n l ≡ true
unfolding is_low
says-low n l w = rw (le-leb n.pairs 65536 w.pairs, le-leb n.content 16777216 w.content, le-leb n.fragments 4194304 w.fragments, le-leb l.place 65536 w.place, le-leb l.bytes 256 w.bytes, le-leb l.fragments 64 w.few)

-- `store_low`
module _ (l : PairLine) (n : PairCounts) (bytes ms es xs ps bs fs : List ℕ) where
  pub stored_one : {ps' bs' fs' : List ℕ} {r : PairCounts} → ps' ≡ sets ps (pair_columns * n.pairs) (line_numbers n l) → bs' ≡ sets bs n.content (take l.bytes bytes)
      → fs' ≡ sets fs (3 * n.fragments) (flat fragment_numbers (fragments_in ms es xs l.fragments)) → r ≡ counted n l
      → StoredOne l n bytes ms es xs (held ps bs fs) r (held ps' bs' fs')
  stored_one a b c d = record { counts = d; pairs = a; content = b; fragments = c }

pub ruleset storing = (rules, stored_one)

-- `store`
module _ (l : PairLine) (n : PairCounts) (bytes ms es xs ps bs fs : List ℕ) {t : Bool} (e : t ≡ is_low n l) where
  pub stores-none : not t ≡ true → Stores (is_low n l) l n bytes ms es xs (held ps bs fs) n (held ps bs fs)
  stores-none h = rw (sym e ∙ was-no t h) (refl, refl)

  module _ (h : not t ≡ false) where
    pub stores-low : Low n l
    stores-low = low-says n l (sym e ∙ was-yes t h)

    pub stores_one : {ps' bs' fs' : List ℕ} {r : PairCounts} → StoredOne l n bytes ms es xs (held ps bs fs) r (held ps' bs' fs') → Stores (is_low n l) l n bytes ms es xs (held ps bs fs) r (held ps' bs' fs')
    stores_one w = rw (sym e ∙ was-yes t h) w

pub ruleset stores = (rules, stores-none, stores-low, stores_one)

-- a pair that can be counted is stored
pub low-stores : {l : PairLine} {n : PairCounts} {bytes ms es xs : List ℕ} {h h' : HeldPairs} {r : PairCounts} → Low n l → Stores (is_low n l) l n bytes ms es xs h r h' → StoredOne l n bytes ms es xs h r h'
low-stores {l} {n} w s = rw (says-low n l w) at s
