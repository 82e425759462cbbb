-- The marks of the symbols that go, and how many stay.
-- Assumes nothing.
use Prim.Native.Nat.{suc, zero, ℕ, ◌+◌, ◌-◌, ◌<◌, ◌≤◌}
use mathlib.Core.Path.{◌≡◌, ap, refl, sym, ◌∙◌}
use mathlib.Core.Bool.{Bool, false, not, true}
use mathlib.Core.List.{List}
use native.Mathlib.Omega.{arith}
use native.Mathlib.Numerals.{add-one}
use lib.ListN.{get_or, length, set, get_or-eq_default}
use borrow.Author.Rules.{rules}
use borrow.Author.Tests.{eq-eqb, ne_eqb}
use Rattle.format.specs.Lists.{pick}
use Rattle.difference.specs.Module.{same_numbers}
use Rattle.laws.specs.Rows.{symbol_at}
use Rattle.row_parts.specs.Parts.{name_in}
use Rattle.kept_symbols.specs.Staying.{has_name, mark_one, marked, staying, stays}
use Rattle.kept_symbols.proofs.Laws.Tests.{was-no, was-yes}

-- `mark_one`
module _ (text symbols name flags : List ℕ) (j : ℕ) {w : List ℕ} (e : w ≡ name_in text (symbol_at symbols j).name) {b : Bool} (d : b ≡ same_numbers w name) where
  is-named : has_name text symbols name j ≡ b
  unfolding has_name
  is-named = sym (d ∙ ap (λ (v : List ℕ). same_numbers v name) e)

  pub mark-not : not b ≡ true → flags ≡ mark_one text symbols name flags j
  unfolding mark_one
  mark-not h = sym (ap (λ (c : Bool). pick c (set flags j 1) flags) (is-named ∙ was-no b h))

  pub mark-yes : not b ≡ false → {flags' : List ℕ} → flags' ≡ set flags j 1 → flags' ≡ mark_one text symbols name flags j
  unfolding mark_one
  mark-yes h g = g ∙ sym (ap (λ (c : Bool). pick c (set flags j 1) flags) (is-named ∙ was-yes b h))

pub ruleset marking = (rules, mark-not, mark-yes)

-- `mark`
pub record Marking (text symbols name old : List ℕ) (n : ℕ) (flags : List ℕ) (j : ℕ) : Type 0 where
  pub within : j ≤ n
  pub is : flags ≡ marked text symbols name old j
  pub long : length flags ≡ length old

pub marking-start : (text symbols name old : List ℕ) (n : ℕ) → Marking text symbols name old n old 0
unfolding marked
marking-start text symbols name old n = record { within = omega arith; is = refl; long = refl }

module _ {text symbols name old : List ℕ} {n : ℕ} {flags : List ℕ} {j : ℕ} (w : Marking text symbols name old n flags j) where
  pub marking-more : j < n → {flags' : List ℕ} → length flags' ≡ length flags → flags' ≡ mark_one text symbols name flags j → Marking text symbols name old n flags' (j + 1)
  unfolding marked
  marking-more h l e = record { within = omega arith; is = e ∙ (ap (λ (f : List ℕ). mark_one text symbols name f j) w.is ∙ sym (ap (λ (k : ℕ). marked text symbols name old k) (add-one j))); long = l ∙ w.long }

  pub marking-end : n ≤ j → flags ≡ marked text symbols name old n
  marking-end h = let z : j ≡ n = omega (arith, w.within) in w.is ∙ ap (λ (k : ℕ). marked text symbols name old k) z

pub ruleset marks = (rules, marking-start, marking-more, marking-end)

-- `one_staying`
module _ (flags : List ℕ) (j : ℕ) {b : ℕ} (e : b ≡ get_or flags j 0) where
  pub one-goes : b ≡ 1 → 0 ≡ stays flags j
  unfolding stays
  one-goes h = sym (ap (λ (t : Bool). pick t 0 1) (eq-eqb (get_or flags j 0) 1 (sym e ∙ h)))

  pub one-stays : (b ≡ 1 → ⊥) → 1 ≡ stays flags j
  unfolding stays
  one-stays h = sym (ap (λ (t : Bool). pick t 0 1) (ne_eqb (get_or flags j 0) 1 (λ d. h (e ∙ d))))

pub ruleset single = (rules, one-goes, one-stays)

-- `staying`
pub record Counting (flags : List ℕ) (n k j : ℕ) : Type 0 where
  pub within : j ≤ n
  pub few : k ≤ j
  pub is : k ≡ staying flags j

pub count-start : (flags : List ℕ) (n : ℕ) → Counting flags n 0 0
unfolding staying
count-start flags n = record { within = omega arith; few = omega arith; is = refl }

stays-past : (flags : List ℕ) (j : ℕ) → length flags ≤ j → stays flags j ≡ 1
unfolding stays
stays-past flags j h = let z : get_or flags j 0 ≡ 0 = get_or-eq_default flags 0 h in rw z

all_stay : (flags : List ℕ) (j m : ℕ) → length flags ≤ j → staying flags (j + m) ≡ staying flags j + m
unfolding staying
all_stay flags j zero h = let z : j + 0 ≡ j = omega arith in ap (staying flags) z ∙ omega arith
all_stay flags j (suc m) h =
    let z : j + suc m ≡ suc (j + m) = omega arith in
    let s = stays-past flags (j + m) (omega arith) in
    let r = all_stay flags j m h in
    ap (staying flags) z ∙ omega (arith, s, r)

module _ {flags : List ℕ} {n k j : ℕ} (w : Counting flags n k j) where
  pub count-more : j < n → {x : ℕ} → x ≡ stays flags j → x ≤ 1 → Counting flags n (k + x) (j + 1)
  unfolding staying
  count-more h {x} e l = record { within = omega arith; few = omega (arith, w.few); is = ap (λ (m : ℕ). m + x) w.is ∙ (ap (λ (m : ℕ). staying flags j + m) e ∙ sym (ap (staying flags) (add-one j))) }

  pub count_past : j < n → length flags ≤ j → k + (n - j) ≡ staying flags n
  count_past h l =
      let z : n ≡ j + (n - j) = omega arith in
      let r = all_stay flags j (n - j) l in
      ap (λ (m : ℕ). m + (n - j)) w.is ∙ (sym r ∙ sym (ap (staying flags) z))

  pub count-end : n ≤ j → k ≡ staying flags n
  count-end h = let z : j ≡ n = omega (arith, w.within) in w.is ∙ ap (staying flags) z

pub ruleset counting = (rules, count-start, count-more, count_past, count-end)
