-- The tests of bytes and names.
-- Assumes nothing.
use Prim.Native.Nat.{ℕ, ◌+◌, ◌<◌, ◌≤◌}
use mathlib.Core.Path.{◌≡◌, refl, sym, ◌∙◌}
use mathlib.Core.Bool.{Bool, false, true, not, ◌||◌}
use mathlib.Core.List.{List, [], ◌∷◌}
use native.Mathlib.Omega.{arith}
use native.Mathlib.Numerals.{add-one}
use lib.ListN.{drop, drop_of_length-le, get_or, length}
use lib.Seq.{drop-cons}
use lib.Dec.{eqb, ltb}
use borrow.Author.Rules.{rules}
use borrow.Author.Tests.{le-ltb, lt-ltb, ne_eqb}
use Rattle.format.specs.Bytes.{is_blank, is_cr_or_lf, is_name_byte, is_white}
use Rattle.row_texts.specs.GoodRows.{good_byte, good_bytes, good_name}
use Rattle.good_names.proofs.Passing.{was-no, was-yes}

-- `byte_good`
module _ (b : ℕ) where
  pub byte_high : 128 ≤ b → false ≡ good_byte b
  unfolding good_byte
  byte_high h = rw (le-ltb b 128 h)

  module _ (h : b < 128) where
    white : (t u v w : Bool) → eqb b 32 ≡ t → eqb b 9 ≡ u → eqb b 13 ≡ v → eqb b 10 ≡ w → not ((t || u) || (v || w)) ≡ good_byte b
    unfolding good_byte is_name_byte is_white is_blank is_cr_or_lf
    white t u v w e f g k = rw (lt-ltb b 128 h, e, f, g, k)

    pub byte-32 : b ≡ 32 → false ≡ good_byte b
    unfolding good_byte is_name_byte is_white is_blank is_cr_or_lf
    byte-32 e = rw e

    pub byte-9 : b ≡ 9 → false ≡ good_byte b
    unfolding good_byte is_name_byte is_white is_blank is_cr_or_lf
    byte-9 e = rw e

    pub byte-13 : b ≡ 13 → false ≡ good_byte b
    unfolding good_byte is_name_byte is_white is_blank is_cr_or_lf
    byte-13 e = rw e

    pub byte-10 : (b ≡ 32 → ⊥) → (b ≡ 9 → ⊥) → (b ≡ 13 → ⊥) → not (eqb b 10) ≡ good_byte b
    byte-10 e f g = white false false false (eqb b 10) (ne_eqb b 32 e) (ne_eqb b 9 f) (ne_eqb b 13 g) refl

pub ruleset bytes = (rules, byte_high, byte-32, byte-9, byte-13, byte-10)

-- `name_good`
pub record Names (w : List ℕ) (i : ℕ) : Type 0 where
  pub within : i ≤ length w
  pub rest : good_bytes w ≡ good_bytes (drop i w)

some-name : (w : List ℕ) → 0 < length w → good_name w ≡ good_bytes w
unfolding good_name
some-name [] h = let z : ⊥ = omega arith in absurd z
some-name (b ∷ bs) h = refl

pub name-start : (w : List ℕ) → Names w 0
name-start w = record { within = omega arith; rest = refl }

module _ {w : List ℕ} {i : ℕ} (x : Names w i) where
  module _ {t : Bool} (e : t ≡ good_byte (get_or w i 0)) (h : i < length w) where
    pub name-more : not t ≡ false → Names w (i + 1)
    unfolding good_bytes
    name-more k = let g = was-yes t k in record { within = omega arith; rest = x.rest ∙ rw (add-one, drop-cons w i 0 h, ← e, g) }

    pub name-bad : not t ≡ true → false ≡ good_name w
    unfolding good_bytes
    name-bad k =
        let g = was-no t k in
        let z : good_bytes (drop i w) ≡ false = rw (drop-cons w i 0 h, ← e, g) in
        sym (some-name w (omega arith) ∙ (x.rest ∙ z))

  pub name-end : length w ≤ i → ltb 0 i ≡ good_name w
  unfolding good_name good_bytes
  name-end h = go w x h
    where
      go : (w : List ℕ) → Names w i → length w ≤ i → ltb 0 i ≡ good_name w
      go [] y k = let z : i ≡ 0 = omega (arith, y.within) in rw z
      go (b ∷ bs) y k = lt-ltb 0 i (omega arith) ∙ sym (y.rest ∙ rw (drop_of_length-le (b ∷ bs) k))

pub ruleset naming = (rules, name-start, name-more, name-bad, name-end)
