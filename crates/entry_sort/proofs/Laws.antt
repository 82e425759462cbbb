-- The laws of a line's letter, what it tells of the byte, and of Ref or Def.
-- Assumes nothing.
use Prim.Native.Nat.{ℕ}
use mathlib.Core.Path.{◌≡◌, refl}
use mathlib.Core.Bool.{Bool, true, false}
use mathlib.Core.List.{List}
use native.Mathlib.Omega.{arith}
use lib.Dec.{eqb}
use borrow.Author.Rules.{rules}
use borrow.Author.Tests.{eq-eqb, ne_eqb, eqb-true, eqb-false}
use Rattle.format.specs.Lists.{pick}
use Rattle.format.specs.Got.{is, isnt}
use Rattle.format.specs.Number.{behind}
use Rattle.format.specs.Entries.{spelled, ref_or_def}
use Rattle.format.specs.Entries as Entries
use Rattle.fields.proofs.Laws.Fields.{word-no, word-is}
use Rattle.entry_sort.specs.Sorts.{letter_of}
use Rattle.entry_sort.specs.declared.Letter.TheVariants.{Area, Symbol, Other}

-- `letter_of`
module _ (b : ℕ) where
  pub letter-1 : b ≡ 65 → Area ≡ letter_of b
  unfolding letter_of
  letter-1 h = rw (eq-eqb b 65 h)

  module _ (h : b ≡ 65 → ⊥) where
    pub letter-2 : b ≡ 83 → Symbol ≡ letter_of b
    unfolding letter_of
    letter-2 i = rw (ne_eqb b 65 h, eq-eqb b 83 i)

    pub letter-3 : (b ≡ 83 → ⊥) → Other ≡ letter_of b
    unfolding letter_of
    letter-3 i = rw (ne_eqb b 65 h, ne_eqb b 83 i)

  pub is-area : letter_of b ≡ Area → b ≡ 65
  unfolding letter_of
  is-area h = go (eqb b 65) (eqb b 83) refl h
    where
      go : (x y : Bool) → eqb b 65 ≡ x → pick x Area (pick y Symbol Other) ≡ Area → b ≡ 65
      go true y e h = eqb-true b 65 e
      go false true e h = absurd (let z : ◌≡◌ {A = ℕ} 0 1 = cc in omega arith)
      go false false e h = absurd (let z : ◌≡◌ {A = ℕ} 0 1 = cc in omega arith)

  pub is-symbol : letter_of b ≡ Symbol → (b ≡ 65 → ⊥) × (b ≡ 83)
  unfolding letter_of
  is-symbol h = go (eqb b 65) (eqb b 83) refl refl h
    where
      go : (x y : Bool) → eqb b 65 ≡ x → eqb b 83 ≡ y → pick x Area (pick y Symbol Other) ≡ Symbol → (b ≡ 65 → ⊥) × (b ≡ 83)
      go true y e f h = absurd (let z : ◌≡◌ {A = ℕ} 0 1 = cc in omega arith)
      go false true e f h = (eqb-false b 65 e, eqb-true b 83 f)
      go false false e f h = absurd (let z : ◌≡◌ {A = ℕ} 0 1 = cc in omega arith)

  pub is-other : letter_of b ≡ Other → (b ≡ 65 → ⊥) × (b ≡ 83 → ⊥)
  unfolding letter_of
  is-other h = go (eqb b 65) (eqb b 83) refl refl h
    where
      go : (x y : Bool) → eqb b 65 ≡ x → eqb b 83 ≡ y → pick x Area (pick y Symbol Other) ≡ Other → (b ≡ 65 → ⊥) × (b ≡ 83 → ⊥)
      go true y e f h = absurd (let z : ◌≡◌ {A = ℕ} 0 1 = cc in omega arith)
      go false true e f h = absurd (let z : ◌≡◌ {A = ℕ} 0 1 = cc in omega arith)
      go false false e f h = (eqb-false b 65 e, eqb-false b 83 f)

pub ruleset letters = (rules, letter-1, letter-2, letter-3)

-- `ref_or_def`
module _ (s : List ℕ) (at : ℕ) {a : ℕ} (e : a ≡ behind (spelled Entries.Ref) s at) where
  pub ref-1 : (a ≡ at → ⊥) → is true a ≡ ref_or_def s at
  unfolding ref_or_def
  ref-1 h = rw (word-is _ s at e h)

  module _ (h : a ≡ at) {b : ℕ} (f : b ≡ behind (spelled Entries.Def) s at) where
    pub ref-2 : (b ≡ at → ⊥) → is false b ≡ ref_or_def s at
    unfolding ref_or_def
    ref-2 g = rw (word-no _ s at e h, word-is _ s at f g)

    pub ref-3 : b ≡ at → isnt 4 at ≡ ref_or_def s at
    unfolding ref_or_def
    ref-3 g = rw (word-no _ s at e h, word-no _ s at f g)

pub ruleset refs = (rules, ref-1, ref-2, ref-3)
