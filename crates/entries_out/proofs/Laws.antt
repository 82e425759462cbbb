-- The laws of areas and symbols written line by line.
-- Assumes nothing.
use Prim.Native.Nat.{suc, ℕ, ◌*◌, ◌+◌, ◌-◌, ◌<◌, ◌^◌, ◌≤◌}
use mathlib.Core.Path.{◌≡◌, ap, refl, subst, sym, ◌∙◌}
use mathlib.Core.Bool.{Bool, false, true}
use mathlib.Core.List.{List, [], ◌++◌, ◌∷◌}
use Rattle.std.specs.Prelude.{Option, None, Some}
use native.Mathlib.Omega.{arith}
use lib.ListN.{get_or, length}
use lib.Dec.{eqb}
use borrow.Author.Rules.{rules}
use borrow.Author.Tests.{ne_eqb}
use Rattle.format.specs.Lists.{flat, pick}
use Rattle.laws.specs.Rows.{area_at, from, given_by, symbol_at}
use Rattle.laws.proofs.Room.{flat_append}
use Rattle.row_parts.specs.Parts.{name_in}
use Rattle.written.specs.Named.{NamedEntry}
use Rattle.digits_out.specs.Wrote.{Wrote}
use Rattle.entry_out.specs.EntryOut.{area_out, given_addr, symbol_out}
use Rattle.row_texts.specs.RowRecords.{area_entry, column, entries_from, symbol_entry}
use Rattle.entries_out.specs.EntriesOut.{entries_out, entry_line}
use Rattle.entries_out.proofs.Going.{Going, go-as, go-end, go-last, go-more, go-start}

-- `area_addr`
module _ {g v : ℕ} (n : ℕ) (e : v ≡ g) where
  pub addr-is : {x : ℕ} → v ≡ 1 → x ≡ n → given_addr (Some x) ≡ given_by g n
  addr-is h f = rw (← e, h, f)

  pub addr-none : (v ≡ 1 → ⊥) → given_addr None ≡ given_by g n
  addr-none h = rw (← e, ne_eqb v 1 h)

pub ruleset addr = (rules, addr-is, addr-none)

-- `put_area_row`
pub area-row : (t s : List ℕ) (i : ℕ) {z g : ℕ} (x : Option ℕ) {w out out₁ : List ℕ} {at r : ℕ} → z ≡ get_or s (7 * i + 2) 0 → g ≡ get_or s (7 * i + 3) 0 → given_addr x ≡ given_by (get_or s (7 * i + 4) 0) (get_or s (7 * i + 5) 0)
    → w ≡ name_in t (area_at s i).name → Wrote (area_out w z g (given_addr x)) out at r out₁ → Wrote (entry_line (area_entry t s i)) out at r out₁
unfolding area_entry area_at
area-row t s i {z} {g} x {w} {out} {out₁} {at} {r} a b c e y =
    let k : area_out w z g (given_addr x) ≡ area_out (name_in t (area_at s i).name) (get_or s (7 * i + 2) 0) (get_or s (7 * i + 3) 0) (given_by (get_or s (7 * i + 4) 0) (get_or s (7 * i + 5) 0)) = rw (a, b, c, e) in
    subst (λ (l : List ℕ). Wrote l out at r out₁) k y

pub ruleset area = (rules, area-row)

-- `put_areas`
entries-append : (xs ys : List NamedEntry) → entries_out (xs ++ ys) ≡ entries_out xs ++ entries_out ys
unfolding entries_out
entries-append xs ys = flat_append entry_line xs ys

entries-one : (e : NamedEntry) (es : List NamedEntry) → entries_out (e ∷ es) ≡ entry_line e ++ entries_out es
unfolding entries_out flat
entries-one e es = refl

one-area : (t s : List ℕ) (b i : ℕ) → i < b → entries_out (from (area_entry t s) i (b - i)) ≡ entry_line (area_entry t s i) ++ entries_out (from (area_entry t s) (i + 1) (b - (i + 1)))
unfolding from
one-area t s b i h =
    let z : b - i ≡ suc (b - (i + 1)) = omega arith in
    let v : suc i ≡ i + 1 = omega arith in
    ap (λ (n : ℕ). entries_out (from (area_entry t s) i n)) z ∙ (entries-one (area_entry t s i) (from (area_entry t s) (suc i) (b - (i + 1))) ∙ ap (λ (n : ℕ). entry_line (area_entry t s i) ++ entries_out (from (area_entry t s) n (b - (i + 1)))) v)

no-area : (t s : List ℕ) (b i : ℕ) → b ≤ i → entries_out (from (area_entry t s) i (b - i)) ≡ []
unfolding from entries_out flat
no-area t s b i h = let z : b - i ≡ 0 = omega arith in ap (λ (n : ℕ). entries_out (from (area_entry t s) i n)) z

pub record Areas (t s : List ℕ) (a b : ℕ) (out₀ : List ℕ) (at i p : ℕ) (out : List ℕ) : Type 0 where
  pub going : Going (entries_out (from (area_entry t s) a (b - a))) out₀ at p out (entries_out (from (area_entry t s) i (b - i)))

pub areas-start : (t s : List ℕ) (a b : ℕ) (out : List ℕ) (at : ℕ) → at < 2 ^ 64 → length out < 2 ^ 64 → Areas t s a b out at a at out
areas-start t s a b out at h k = record { going = go-start (entries_out (from (area_entry t s) a (b - a))) out at h k }

module _ {t s : List ℕ} {a b : ℕ} {out₀ : List ℕ} {at i p : ℕ} {out : List ℕ} (x : Areas t s a b out₀ at i p out) where
  pub areas-more : i < b → {out₁ : List ℕ} {q : ℕ} → Wrote (entry_line (area_entry t s i)) out p q out₁ → Areas t s a b out₀ at (i + 1) q out₁
  areas-more h y = record { going = go-more (go-as (one-area t s b i h) x.going) y }

  pub areas-end : b ≤ i → Wrote (entries_out (from (area_entry t s) a (b - a))) out₀ at p out
  areas-end h = go-end (go-as (no-area t s b i h) x.going)

pub ruleset areas = (rules, areas-start, areas-more, areas-end)

-- `put_symbol_row`
pub symbol-row : (t s : List ℕ) (j : ℕ) {v x : ℕ} {w out out₁ : List ℕ} {at r : ℕ} → v ≡ get_or s (5 * j + 2) 0 → x ≡ get_or s (5 * j + 3) 0 → w ≡ name_in t (symbol_at s j).name
    → Wrote (symbol_out w (eqb v 1) x) out at r out₁ → Wrote (entry_line (symbol_entry t s j)) out at r out₁
unfolding symbol_entry symbol_at
symbol-row t s j {v} {x} {w} {out} {out₁} {at} {r} a b e y =
    let k : symbol_out w (eqb v 1) x ≡ symbol_out (name_in t (symbol_at s j).name) (eqb (get_or s (5 * j + 2) 0) 1) (get_or s (5 * j + 3) 0) = rw (a, b, e) in
    subst (λ (l : List ℕ). Wrote l out at r out₁) k y

pub ruleset symbol = (rules, symbol-row)

-- `put_entries`
is-column : (s : List ℕ) (j : ℕ) {c : ℕ} → c ≡ get_or s (5 * j + 4) 0 → column s j ≡ c
unfolding column
is-column s j e = sym e

module _ (t a : List ℕ) (n : ℕ) (s : List ℕ) (m k j : ℕ) where
  one_symbol : (c : ℕ) → j < m → column s j ≡ c
      → entries_out (entries_from t a n s k j (m - j)) ≡ entries_out (from (area_entry t a) k (c - k)) ++ (entry_line (symbol_entry t s j) ++ entries_out (entries_from t a n s c (j + 1) (m - (j + 1))))
  unfolding entries_from
  one_symbol c h e =
      let z : m - j ≡ suc (m - (j + 1)) = omega arith in
      let v : suc j ≡ j + 1 = omega arith in
      ap (λ (y : ℕ). entries_out (entries_from t a n s k j y)) z
      ∙ (ap (λ (y : ℕ). entries_out (from (area_entry t a) k (y - k) ++ symbol_entry t s j ∷ entries_from t a n s y (suc j) (m - (j + 1)))) e
      ∙ (ap (λ (y : ℕ). entries_out (from (area_entry t a) k (c - k) ++ symbol_entry t s j ∷ entries_from t a n s c y (m - (j + 1)))) v
      ∙ (entries-append (from (area_entry t a) k (c - k)) (symbol_entry t s j ∷ entries_from t a n s c (j + 1) (m - (j + 1)))
      ∙ ap (λ (l : List ℕ). entries_out (from (area_entry t a) k (c - k)) ++ l) (entries-one (symbol_entry t s j) (entries_from t a n s c (j + 1) (m - (j + 1)))))))

  areas-left : m ≤ j → entries_out (entries_from t a n s k j (m - j)) ≡ entries_out (from (area_entry t a) k (n - k))
  unfolding entries_from
  areas-left h = let z : m - j ≡ 0 = omega arith in ap (λ (y : ℕ). entries_out (entries_from t a n s k j y)) z

pub record Entries (t a : List ℕ) (n : ℕ) (s : List ℕ) (m : ℕ) (out₀ : List ℕ) (at k j p : ℕ) (out : List ℕ) : Type 0 where
  pub going : Going (entries_out (entries_from t a n s 0 0 m)) out₀ at p out (entries_out (entries_from t a n s k j (m - j)))

pub entries-start : (t a : List ℕ) (n : ℕ) (s : List ℕ) (m : ℕ) (out : List ℕ) (at : ℕ) → at < 2 ^ 64 → length out < 2 ^ 64 → Entries t a n s m out at 0 0 at out
entries-start t a n s m out at h k =
    let z : m ≡ m - 0 = omega arith in
    record { going = go-as (ap (λ (x : ℕ). entries_out (entries_from t a n s 0 0 x)) z) (go-start (entries_out (entries_from t a n s 0 0 m)) out at h k) }

module _ {t a : List ℕ} {n : ℕ} {s : List ℕ} {m : ℕ} {out₀ : List ℕ} {at k j p : ℕ} {out : List ℕ} (x : Entries t a n s m out₀ at k j p out) where
  pub entries-more : j < m → {v c : ℕ} → v ≡ get_or s (5 * j + 4) 0 → c ≡ v → {o₁ o₂ : List ℕ} {q r : ℕ} → Wrote (entries_out (from (area_entry t a) k (c - k))) out p q o₁ → Wrote (entry_line (symbol_entry t s j)) o₁ q r o₂
      → Entries t a n s m out₀ at c (j + 1) r o₂
  entries-more h {v} {c} e f y z = record { going = go-more (go-more (go-as (one_symbol t a n s m k j c h (is-column s j (f ∙ e))) x.going) y) z }

  pub entries-end : m ≤ j → {o₁ : List ℕ} {q : ℕ} → Wrote (entries_out (from (area_entry t a) k (n - k))) out p q o₁ → Wrote (entries_out (entries_from t a n s 0 0 m)) out₀ at q o₁
  entries-end h y = go-last (go-as (areas-left t a n s m k j h) x.going) y

pub ruleset entries = (rules, entries-start, entries-more, entries-end)
