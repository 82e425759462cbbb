-- The header.
-- Assumes nothing.
use Prim.Native.Nat.{ℕ, suc, ◌+◌, ◌-◌, ◌<◌, ◌≤◌}
use mathlib.Core.Path.{◌≡◌, refl, ap, sym, subst, ◌∙◌}
use mathlib.Core.Bool.{Bool, true, false, not}
use mathlib.Core.List.{List, [], ◌∷◌}
use mathlib.Core.Option.{Option, none, some}
use native.Mathlib.Numerals.{add-one}
use native.Mathlib.Omega.{arith}
use native.Mathlib.Nat.{zero-add, suc-add}
use lib.ListN.{length, get_or, drop, length-drop}
use lib.Seq.{drop-cons}
use lib.Dec.{leb, eqb, T}
use borrow.Author.Rules.{rules}
use borrow.Author.Tests.{lt-ltb, le-ltb, eq-eqb, ne_eqb, leb-true}
use Rattle.format.specs.Lists.{pick, run}
use Rattle.format.specs.Bytes.{is_blank, is_white}
use Rattle.format.specs.Number.{past}
use Rattle.format.specs.Header.{radix_of, is_order, is_length, is_form, letters, later, header}
use Rattle.header.specs.Letters.{shifted, letters_at}
use Rattle.format.specs.Header as the
use Rattle.scan.proofs.Laws.Tests.{by_order, was-no, was-yes}

-- the header
module _ (b : ℕ) where
  pub order-1 : b ≡ 72 → true ≡ is_order b
  unfolding is_order
  order-1 h = rw (eq-eqb b 72 h)

  pub order-2 : (b ≡ 72 → ⊥) → eqb b 76 ≡ is_order b
  unfolding is_order
  order-2 h = rw (ne_eqb b 72 h)

  pub length-1 : b < 50 → false ≡ is_length b
  unfolding is_length
  length-1 h = rw (lt-ltb b 50 h)

  pub length-2 : 50 ≤ b → leb b 52 ≡ is_length b
  unfolding is_length
  length-2 h = rw (le-ltb b 50 h)

  length-low : is_length b ≡ true → 50 ≤ b
  unfolding is_length
  length-low h = by_order b 50 (λ l. let z : ◌≡◌ {A = Bool} false true = rw (lt-ltb b 50 l) at h in absurd (subst T (sym z) tt)) (λ l. l)

  length_high : is_length b ≡ true → b ≤ 52
  unfolding is_length
  length_high h = leb-true b 52 (rw (le-ltb b 50 (length-low h)) at h)

  pub length-told : {l : Bool} → l ≡ is_length b → not l ≡ false → is_length b ≡ true
  length-told {l} e h = sym e ∙ was-yes l h

  pub width_four : is_length b ≡ true → (b ≡ 50 → ⊥) → (b ≡ 51 → ⊥) → 52 ≡ b
  width_four h n m =
      let l : 50 ≤ b = length-low h in
      let u : b ≤ 52 = length_high h in
      omega arith

pub ruleset headed = (rules, order-1, order-2, length-1, length-2)

-- the letters of a place, by the three bytes there
letters-three : (s : List ℕ) (p : ℕ) → p + 3 ≤ length s → drop p s ≡ get_or s p 0 ∷ get_or s (p + 1) 0 ∷ get_or s (p + 2) 0 ∷ drop (p + 3) s
letters-three s p h =
    let a : p + 1 ≡ suc p = add-one p in
    let b : p + 2 ≡ suc (suc p) = omega arith in
    let c : p + 3 ≡ suc (suc (suc p)) = omega arith in
    rw (a, b, c) (drop-cons s p 0 (omega arith) ∙ ap (λ (l : List ℕ). get_or s p 0 ∷ l) (drop-cons s (suc p) 0 (omega arith) ∙ ap (λ (l : List ℕ). get_or s (suc p) 0 ∷ l) (drop-cons s (suc (suc p)) 0 (omega arith))))

letters-short : (xs : List ℕ) → length xs < 3 → letters xs ≡ none
unfolding letters
letters-short [] h = refl
letters-short (a ∷ []) h = refl
letters-short (a ∷ b ∷ []) h = refl
letters-short (a ∷ b ∷ c ∷ r) h = absurd (omega arith)

module _ (s : List ℕ) (p : ℕ) where
  pub letters-short-1 : length s < 3 → none ≡ letters_at s p
  unfolding letters_at
  letters-short-1 h = rw (letters-short (drop p s) (omega (arith, length-drop p s)))

  pub letters-short-2 : 3 ≤ length s → length s - 3 < p → none ≡ letters_at s p
  unfolding letters_at
  letters-short-2 h g = rw (letters-short (drop p s) (omega (arith, length-drop p s)))

  module _ (h₁ : 3 ≤ length s) (h₂ : p ≤ length s - 3) {r : ℕ} (e : r ≡ radix_of (get_or s p 0)) where
    h : p + 3 ≤ length s
    h = omega arith

    pub letters-1 : r ≡ 0 → none ≡ letters_at s p
    unfolding letters_at letters is_form
    letters-1 g = rw (letters-three s p h, ← e, eq-eqb r 0 g)

    module _ (z : r ≡ 0 → ⊥) {o : Bool} (f : o ≡ is_order (get_or s (p + 1) 0)) where
      pub letters-2 : not o ≡ true → none ≡ letters_at s p
      unfolding letters_at letters is_form
      letters-2 g = rw (letters-three s p h, ← e, ne_eqb r 0 z, ← f, was-no o g)

      module _ (g : not o ≡ false) {l : Bool} (i : l ≡ is_length (get_or s (p + 2) 0)) where
        pub letters-3 : not l ≡ true → none ≡ letters_at s p
        unfolding letters_at letters is_form
        letters-3 j = rw (letters-three s p h, ← e, ne_eqb r 0 z, ← f, was-yes o g, ← i, was-no l j)

        module _ (j : not l ≡ false) {x : ℕ} (k : x + 49 ≡ get_or s (p + 2) 0) {n : ℕ} (m : n ≡ past is_blank s (p + 3)) where
          pub letters-4 : ◌≡◌ {A = Option the.Head} (some (record { form = record { radix = r; big = eqb (get_or s (p + 1) 0) 72; address_length = suc x }; next = n })) (letters_at s p)
          unfolding letters_at letters is_form the.form_of past
          letters-4 =
              let d : suc x ≡ get_or s (p + 2) 0 - 48 = omega arith in
              let q : n ≡ p + suc (suc (suc (length (run is_blank (drop (p + 3) s))))) = m ∙ omega arith in
              rw (letters-three s p h, ← e, ne_eqb r 0 z, ← f, was-yes o g, ← i, was-yes l j, d, q)

-- `format_spec`: behind the white bytes stand the letters
shifted-zero : (o : Option the.Head) → o ≡ shifted 0 o
shifted-zero none = refl
shifted-zero (some h) = rw zero-add

shifted-suc : (n : ℕ) (o : Option the.Head) → later (shifted n o) ≡ shifted (suc n) o
unfolding later
shifted-suc n none = refl
shifted-suc n (some h) = rw suc-add

header-run : (xs : List ℕ) → header xs ≡ shifted (length (run is_white xs)) (letters (drop (length (run is_white xs)) xs))
unfolding header run letters
header-run [] = refl
header-run (b ∷ bs) = go (is_white b) (header-run bs)
  where
    go : (t : Bool) → header bs ≡ shifted (length (run is_white bs)) (letters (drop (length (run is_white bs)) bs))
        → pick t (later (header bs)) (letters (b ∷ bs)) ≡ shifted (length (pick t (b ∷ run is_white bs) [])) (letters (drop (length (pick t (b ∷ run is_white bs) [])) (b ∷ bs)))
    go true ih = ap later ih ∙ shifted-suc (length (run is_white bs)) (letters (drop (length (run is_white bs)) bs))
    go false ih = shifted-zero (letters (b ∷ bs))

pub header_is : (s : List ℕ) {p : ℕ} {o : Option the.Head} → p ≡ past is_white s 0 → o ≡ letters_at s p → o ≡ header s
unfolding past letters_at
header_is s e f = f ∙ (rw (e, zero-add) (sym (header-run s)))

pub ruleset heading = (rules, width_four, length-told, letters-short-1, letters-short-2, letters-1, letters-2, letters-3, letters-4, header_is)
