-- The laws of what the walks can take.
-- Assumes nothing.
use Prim.Native.Nat.{ℕ, ◌<◌, ◌≤◌}
use mathlib.Core.Path.{◌≡◌, ap, refl, sym, ◌∙◌}
use mathlib.Core.Bool.{Bool, true, false, ◌&&◌, false≢true}
use mathlib.Core.List.{List, []}
use lib.ListN.{length}
use lib.Dec.{eqb, leb}
use borrow.Author.Rules.{rules}
use borrow.Author.Tests.{eq-eqb, eqb-true, le-leb, leb-true, lt-leb}
use Rattle.difference.specs.Changes.{Change}
use Rattle.change_rows.specs.Room.{few_of, paired_masks}
use Rattle.change_rows.specs.Walk.{Walked, WalkedIf}
use Rattle.change_rows.proofs.Going.{no_row}

pub both_true : (s t : Bool) → (s && t) ≡ true → (s ≡ true) × (t ≡ true)
both_true true true h = (refl, refl)
both_true true false h = absurd (false≢true h)
both_true false t h = absurd (false≢true h)

pub all_true : (s t : Bool) → s ≡ true → t ≡ true → (s && t) ≡ true
all_true s t e f = ap (λ (x : Bool). x && t) e ∙ f

pub one-false : (s t : Bool) → s ≡ false → (s && t) ≡ false
one-false s t e = ap (λ (x : Bool). x && t) e

pub later-false : (s t : Bool) → s ≡ true → t ≡ false → (s && t) ≡ false
later-false s t e f = ap (λ (x : Bool). x && t) e ∙ f

-- `few`
module _ (rows m n : ℕ) where
  pub few-rows : 536870912 < rows → false ≡ few_of rows m n
  unfolding few_of
  few-rows h = sym (one-false _ _ (lt-leb rows 536870912 h))

  pub few-first : rows ≤ 536870912 → 1024 < m → false ≡ few_of rows m n
  unfolding few_of
  few-first h k = sym (later-false _ _ (le-leb rows 536870912 h) (one-false _ _ (lt-leb m 1024 k)))

  pub few-second : rows ≤ 536870912 → m ≤ 1024 → leb n 1024 ≡ few_of rows m n
  unfolding few_of
  few-second h k = sym (ap (λ (x : Bool). x && (leb m 1024 && leb n 1024)) (le-leb rows 536870912 h) ∙ ap (λ (x : Bool). x && leb n 1024) (le-leb m 1024 k))

  pub few-is : rows ≤ 536870912 → m ≤ 1024 → n ≤ 1024 → few_of rows m n ≡ true
  unfolding few_of
  few-is h k l = all_true _ _ (le-leb rows 536870912 h) (all_true _ _ (le-leb m 1024 k) (le-leb n 1024 l))

  module _ {r : Bool} (e : r ≡ few_of rows m n) (f : r ≡ true) where
    parts : (leb rows 536870912 ≡ true) × ((leb m 1024 && leb n 1024) ≡ true)
    unfolding few_of
    parts = both_true _ _ (sym e ∙ f)

    pub rows-low : rows ≤ 536870912
    rows-low = leb-true rows 536870912 parts.0

    pub first-low : m ≤ 1024
    first-low = leb-true m 1024 (both_true (leb m 1024) (leb n 1024) parts.1).0

    pub second-low : n ≤ 1024
    second-low = leb-true n 1024 (both_true (leb m 1024) (leb n 1024) parts.1).1

    pub few-all : (rows ≤ 536870912) × (m ≤ 1024) × (n ≤ 1024)
    few-all = (rows-low, first-low, second-low)

pub ruleset fews = (rules, few-rows, few-first, few-second)

-- `paired_masks`
module _ (v m : List ℕ) where
  pub masks-long : 65536 < length v → false ≡ paired_masks v m
  unfolding paired_masks
  masks-long h = sym (one-false _ _ (lt-leb (length v) 65536 h))

  pub masks-same : length v ≤ 65536 → eqb (length m) (length v) ≡ paired_masks v m
  unfolding paired_masks
  masks-same h = sym (ap (λ (x : Bool). x && eqb (length m) (length v)) (le-leb (length v) 65536 h))

  pub masks-are : length v ≤ 65536 → length m ≡ length v → paired_masks v m ≡ true
  unfolding paired_masks
  masks-are h e = all_true _ _ (le-leb (length v) 65536 h) (eq-eqb (length m) (length v) e)

  module _ {r : Bool} (e : r ≡ paired_masks v m) (f : r ≡ true) where
    mask-parts : (leb (length v) 65536 ≡ true) × (eqb (length m) (length v) ≡ true)
    unfolding paired_masks
    mask-parts = both_true _ _ (sym e ∙ f)

    pub image-low : length v ≤ 65536
    image-low = leb-true (length v) 65536 mask-parts.0

    pub mask-each : length m ≡ length v
    mask-each = eqb-true (length m) (length v) mask-parts.1

pub ruleset masks = (rules, masks-long, masks-same)

-- what is added if a walk can be taken
pub walk-taken : {w : Bool} {list : List ℕ} {n : ℕ} {cs : List Change} {k r : ℕ} {after : List ℕ} (b : Bool) → b ≡ true → Walked w list n cs k r after → WalkedIf b w list n cs k r after
walk-taken b e a = record { taken = λ f. a; left = λ f. absurd (false≢true (sym f ∙ e)) }

pub walk-left : (w : Bool) (list : List ℕ) (n : ℕ) (cs : List Change) (k : ℕ) (b : Bool) → b ≡ false → WalkedIf b w list n cs k n list
walk-left w list n cs k b e = record { taken = λ f. absurd (false≢true (sym e ∙ f)); left = λ f. no_row w list n [] k refl }
