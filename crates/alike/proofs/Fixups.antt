-- The laws of equal fixups.
-- Assumes nothing.
use Prim.Native.Nat.{ℕ, ◌+◌, ◌*◌}
use mathlib.Core.Path.{◌≡◌, refl, ap, sym, ◌∙◌}
use mathlib.Core.Bool.{Bool, true, false}
use mathlib.Core.List.{List, [], ◌∷◌, ◌++◌}
use native.Mathlib.Omega.{arith}
use lib.ListN.{length, get_or}
use lib.Dec.{eqb}
use borrow.Author.Rules.{rules}
use borrow.Author.Tests.{eq-eqb, ne_eqb}
use Rattle.format.specs.Lists.{pick}
use Rattle.format.specs.Fixups as the
use Rattle.laws.specs.Rows.{fixup_row, fixup_from}
use Rattle.fixup_rows.specs.Fixups.{name_of, told_fixup}
use Rattle.fixup_rows.specs.declared.fixup.Fixup.{Fixup}
use Rattle.difference.specs.Module.{same_numbers, says}
use Rattle.difference.proofs.Lists.{same-eq}
use Rattle.alike.specs.Parts.{numbers_of, refers_to}
use Rattle.alike.proofs.Names.{not-same}

-- `same_numbers`: numbers that differ in one
module _ (x y : Fixup) where
  pub home-apart : (x.home ≡ y.home → ⊥) → false ≡ same_numbers (numbers_of (told_fixup x)) (numbers_of (told_fixup y))
  unfolding numbers_of
  home-apart h = not-same (numbers_of (told_fixup x)) (numbers_of (told_fixup y)) (λ e. h (ap (λ (l : List ℕ). get_or l 0 0) e))

  pub position-apart : (x.position ≡ y.position → ⊥) → false ≡ same_numbers (numbers_of (told_fixup x)) (numbers_of (told_fixup y))
  unfolding numbers_of
  position-apart h = not-same (numbers_of (told_fixup x)) (numbers_of (told_fixup y)) (λ e. h (ap (λ (l : List ℕ). get_or l 1 0) e))

  pub size-apart : (x.size ≡ y.size → ⊥) → false ≡ same_numbers (numbers_of (told_fixup x)) (numbers_of (told_fixup y))
  unfolding numbers_of
  size-apart h = not-same (numbers_of (told_fixup x)) (numbers_of (told_fixup y)) (λ e. h (ap (λ (l : List ℕ). get_or l 2 0) e))

  pub mode-apart : (x.mode ≡ y.mode → ⊥) → false ≡ same_numbers (numbers_of (told_fixup x)) (numbers_of (told_fixup y))
  unfolding numbers_of
  mode-apart h = not-same (numbers_of (told_fixup x)) (numbers_of (told_fixup y)) (λ e. h (ap (λ (l : List ℕ). get_or l 3 0) e))

  pub value-apart : (x.value ≡ y.value → ⊥) → false ≡ same_numbers (numbers_of (told_fixup x)) (numbers_of (told_fixup y))
  unfolding numbers_of
  value-apart h = not-same (numbers_of (told_fixup x)) (numbers_of (told_fixup y)) (λ e. h (ap (λ (l : List ℕ). get_or l 4 0) e))

  pub number-apart : (x.number ≡ y.number → ⊥) → false ≡ same_numbers (numbers_of (told_fixup x)) (numbers_of (told_fixup y))
  unfolding numbers_of
  number-apart h = not-same (numbers_of (told_fixup x)) (numbers_of (told_fixup y)) (λ e. h (ap (λ (l : List ℕ). get_or l 5 0) e))

  pub numbers-each : x.home ≡ y.home → x.position ≡ y.position → x.size ≡ y.size → x.mode ≡ y.mode → x.value ≡ y.value → x.number ≡ y.number
      → eqb x.outside y.outside ≡ same_numbers (numbers_of (told_fixup x)) (numbers_of (told_fixup y))
  unfolding numbers_of same_numbers
  numbers-each a b c d e f =
      rw (eq-eqb x.home y.home a, eq-eqb x.position y.position b, eq-eqb x.size y.size c, eq-eqb x.mode y.mode d, eq-eqb x.value y.value e, eq-eqb x.number y.number f) (last (eqb x.outside y.outside))
    where
      last : (b : Bool) → b ≡ pick b true false
      last true = refl
      last false = refl

pub ruleset numbers = (rules, home-apart, position-apart, size-apart, mode-apart, value-apart, number-apart, numbers-each)

-- two lists in two parts
pick-with : (b c d e : Bool) → c ≡ pick d e false → pick b c false ≡ pick (pick b d false) e false
pick-with true c d e h = h
pick-with false c d e h = refl

pub in_parts : (a b p q : List ℕ) → length a ≡ length b → same_numbers (a ++ p) (b ++ q) ≡ pick (same_numbers a b) (same_numbers p q) false
unfolding same_numbers
in_parts [] [] p q h = refl
in_parts [] (y ∷ ys) p q h = absurd (omega (arith, h))
in_parts (x ∷ xs) [] p q h = absurd (omega (arith, h))
in_parts (x ∷ xs) (y ∷ ys) p q h =
    pick-with (eqb x y) (same_numbers (xs ++ p) (ys ++ q)) (same_numbers xs ys) (same_numbers p q) (in_parts xs ys p q (omega (arith, h)))

pub says-parts : (s t : List ℕ) (x y : the.Fixup) → same_numbers (says s x) (says t y) ≡ pick (same_numbers (numbers_of x) (numbers_of y)) (same_numbers (refers_to s x) (refers_to t y)) false
unfolding says numbers_of refers_to
says-parts s t x y = in_parts (numbers_of x) (numbers_of y) (refers_to s x) (refers_to t y) refl

-- `same_placed`
pub positions-apart : (s xs : List ℕ) (i : ℕ) (t ys : List ℕ) (j : ℕ) {p q : ℕ} → p ≡ get_or xs (9 * i + 1) 0 → q ≡ get_or ys (9 * j + 1) 0 → (q ≡ p → ⊥) → false ≡ same_numbers (says s (fixup_row xs i)) (says t (fixup_row ys j))
unfolding numbers_of fixup_row fixup_from
positions-apart s xs i t ys j e f h =
    let g : false ≡ same_numbers (numbers_of (fixup_row xs i)) (numbers_of (fixup_row ys j)) = not-same (numbers_of (fixup_row xs i)) (numbers_of (fixup_row ys j)) (λ k. h (f ∙ (sym (ap (λ (l : List ℕ). get_or l 1 0) k) ∙ sym e))) in
    sym (says-parts s t (fixup_row xs i) (fixup_row ys j) ∙ rw (← g))

-- what `same_reference` asks
pub outside-same : (x y : Fixup) {b : Bool} → b ≡ same_numbers (numbers_of (told_fixup x)) (numbers_of (told_fixup y)) → b ≡ true → x.outside ≡ y.outside
unfolding numbers_of
outside-same x y e h = let k = same-eq (numbers_of (told_fixup x)) (numbers_of (told_fixup y)) (sym e ∙ h) in ap (λ (l : List ℕ). get_or l 6 0) k

-- `same_reference`
module _ (s t xs ys : List ℕ) (i j : ℕ) (x y : Fixup) (o : x.outside ≡ y.outside) (e : told_fixup x ≡ fixup_row xs i) (f : told_fixup y ≡ fixup_row ys j) where
  pub area-reference : x.outside ≡ 0 → eqb x.what y.what ≡ same_numbers (refers_to s (fixup_row xs i)) (refers_to t (fixup_row ys j))
  unfolding refers_to same_numbers
  area-reference z =
      let p : eqb x.outside 0 ≡ true = eq-eqb x.outside 0 z in
      let q : eqb y.outside 0 ≡ true = eq-eqb y.outside 0 (sym o ∙ z) in
      rw (← e, ← f, p, q) (one_number (eqb x.what y.what))
    where
      one_number : (b : Bool) → b ≡ pick b true false
      one_number true = refl
      one_number false = refl

  pub name-reference : (x.outside ≡ 0 → ⊥) → {a b : List ℕ} {r : Bool} → a ≡ name_of s (fixup_row xs i) → b ≡ name_of t (fixup_row ys j) → r ≡ same_numbers a b
      → r ≡ same_numbers (refers_to s (fixup_row xs i)) (refers_to t (fixup_row ys j))
  unfolding refers_to
  name-reference z {a} {b} {r} g h k =
      let p : eqb x.outside 0 ≡ false = ne_eqb x.outside 0 z in
      let q : eqb y.outside 0 ≡ false = ne_eqb y.outside 0 (λ n. z (o ∙ n)) in
      let u : r ≡ same_numbers (name_of s (fixup_row xs i)) (name_of t (fixup_row ys j)) = k ∙ rw (g, h) in
      u ∙ rw (← e, ← f, p, q)

-- `same_fixup`
module _ (s t xs ys : List ℕ) (i j : ℕ) {x y : Fixup} (e : told_fixup x ≡ fixup_row xs i) (f : told_fixup y ≡ fixup_row ys j) {b : Bool} (h : b ≡ same_numbers (numbers_of (told_fixup x)) (numbers_of (told_fixup y))) where
  row-numbers : b ≡ same_numbers (numbers_of (fixup_row xs i)) (numbers_of (fixup_row ys j))
  row-numbers = h ∙ (ap (λ (z : the.Fixup). same_numbers (numbers_of z) (numbers_of (told_fixup y))) e ∙ ap (λ (z : the.Fixup). same_numbers (numbers_of (fixup_row xs i)) (numbers_of z)) f)

  pub same-numbers : b ≡ true → {r : Bool} → r ≡ same_numbers (refers_to s (fixup_row xs i)) (refers_to t (fixup_row ys j)) → r ≡ same_numbers (says s (fixup_row xs i)) (says t (fixup_row ys j))
  same-numbers k g = g ∙ sym (says-parts s t (fixup_row xs i) (fixup_row ys j) ∙ ap (λ (c : Bool). pick c (same_numbers (refers_to s (fixup_row xs i)) (refers_to t (fixup_row ys j))) false) (sym row-numbers ∙ k))

  pub other-numbers : b ≡ false → false ≡ same_numbers (says s (fixup_row xs i)) (says t (fixup_row ys j))
  other-numbers k = sym (says-parts s t (fixup_row xs i) (fixup_row ys j) ∙ ap (λ (c : Bool). pick c (same_numbers (refers_to s (fixup_row xs i)) (refers_to t (fixup_row ys j))) false) (sym row-numbers ∙ k))

pub ruleset references = (rules, area-reference, name-reference)

pub ruleset fixups = (rules, outside-same, same-numbers, other-numbers)

pub ruleset placed = (rules, positions-apart)
