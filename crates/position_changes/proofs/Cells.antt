-- The laws of positions.
-- Assumes nothing.
use Prim.Native.Nat.{ℕ, zero, suc, ◌+◌, ◌<◌, ◌≤◌}
use mathlib.Core.Path.{◌≡◌, refl, ap, subst, sym, ◌∙◌}
use mathlib.Core.Bool.{Bool, true, false, not, ◌&&◌}
use mathlib.Core.List.{List, [], ◌∷◌, ◌++◌}
use mathlib.Core.Option.{Option, none, some}
use native.Mathlib.Omega.{arith}
use native.Mathlib.Numerals.{add-one}
use lib.ListN.{length, drop, get_or}
use lib.Dec.{leb, ltb}
use borrow.Author.Rules.{rules}
use borrow.Author.Tests.{le-leb, leb-true, leb-false, lt-leb, lt-ltb, le-ltb, ltb-true, ltb-false, not-false, not-true}
use Rattle.format.specs.Lists.{pick}
use Rattle.difference.specs.Module.{Cell, cells}
use Rattle.difference.specs.Changes.{Change, paired, position, position_change, same_cell}
use Rattle.difference.specs.Rows.{change_numbers}
use Rattle.change_rows.specs.Room.{paired_masks}
use Rattle.change_rows.proofs.Room.{all_true, image-low, later-false, mask-each, masks-are, one-false, walk-left, walk-taken}
use Rattle.change_rows.specs.Walk.{Added, Put, Walked, WalkedIf}
use Rattle.std.specs.Prelude.{Option as Answer, Some, None}
use Rattle.position_tests.specs.declared.tests.Cell as code
use Rattle.position_changes.specs.Here.{Larger, cell_at, told_cell}
use Rattle.change_rows.proofs.Going.{Going, going_end, going_start, going_step, no_row, one-row, put-added}

-- `both`
module _ (id at ov om nv nm : ℕ) where
  abbrev change : List Change
  change = position_change id at (some (record { value = ov; mask = om })) (some (record { value = nv; mask = nm }))

  module _ (w : Bool) (list : List ℕ) (n : ℕ) {b : Bool} (e : b ≡ same_cell (some (record { value = ov; mask = om })) (some (record { value = nv; mask = nm }))) where
    pub both-same : b ≡ true → Walked w list n change 1 n list
    unfolding position_change
    both-same g = no_row w list n change 1 (ap (λ (c : Bool). pick c [] (position id at (some (record { value = ov; mask = om })) (some (record { value = nv; mask = nm })) ∷ [])) (sym e ∙ g))

    pub both-other : b ≡ false → {r : ℕ} {after : List ℕ} → Added w list n (0 ∷ id ∷ at ∷ ov ∷ om ∷ nv ∷ nm ∷ 0 ∷ []) r after → Walked w list n change 1 r after
    unfolding position_change change_numbers
    both-other g h =
        one-row h (position id at (some (record { value = ov; mask = om })) (some (record { value = nv; mask = nm }))) refl change
        (ap (λ (c : Bool). pick c [] (position id at (some (record { value = ov; mask = om })) (some (record { value = nv; mask = nm })) ∷ [])) (sym e ∙ g))

pub ruleset boths = (rules, both-same, both-other)

-- `cell_at`
module _ (v m : List ℕ) (i : ℕ) where
  cell-there : i < length v → cell_at v m i ≡ some (record { value = get_or v i 0; mask = get_or m i 0 })
  unfolding cell_at
  cell-there h = rw (lt-ltb i (length v) h)

  cell-none : length v ≤ i → cell_at v m i ≡ none
  unfolding cell_at
  cell-none h = rw (le-ltb i (length v) h)

  pub cell-past : length v ≤ i → none ≡ cell_at v m i
  cell-past h = sym (cell-none h)

  pub cell-is : i < length v → {a b : ℕ} → b ≡ get_or m i 0 → a ≡ get_or v i 0 → some (record { value = a; mask = b }) ≡ cell_at v m i
  cell-is h e f = sym (cell-there h ∙ rw (← e, ← f))

pub ruleset the_cells = (rules, cell-past, cell-is)

-- `position`
abbrev change_at : (v m w k : List ℕ) (i id : ℕ) → List Change
change_at v m w k i id = position_change id i (cell_at v m i) (cell_at w k i)

module _ (v m w k : List ℕ) (i id : ℕ) (b : Bool) (list : List ℕ) (n : ℕ) {x y : Answer code.Cell} (p : told_cell x ≡ cell_at v m i) (q : told_cell y ≡ cell_at w k i) where
  by : {c d : Answer code.Cell} → x ≡ c → y ≡ d → (change_at v m w k i id) ≡ position_change id i (told_cell c) (told_cell d)
  by {c} f g = ap (λ (z : Option Cell). position_change id i z (cell_at w k i)) (sym p ∙ ap told_cell f) ∙ ap (λ (z : Option Cell). position_change id i (told_cell c) z) (sym q ∙ ap told_cell g)

  pub position-neither : x ≡ None → y ≡ None → Walked b list n (change_at v m w k i id) 1 n list
  unfolding position_change
  position-neither f g = no_row b list n (change_at v m w k i id) 1 (by f g)

  module _ {o c : ℕ} {r : ℕ} {after : List ℕ} where
    pub position-old : {ov om : ℕ} → x ≡ Some (record { value = ov; mask = om }) → y ≡ None → Added b list n (1 ∷ id ∷ i ∷ ov ∷ om ∷ o ∷ c ∷ 0 ∷ []) r after → o ≡ 0 → c ≡ 0 → Walked b list n (change_at v m w k i id) 1 r after
    unfolding position_change change_numbers
    position-old {ov} {om} f g h s t = one-row h (position id i (some (record { value = ov; mask = om })) none) (rw (s, t)) (change_at v m w k i id) (by f g)

    pub position-new : {nv nm : ℕ} → x ≡ None → y ≡ Some (record { value = nv; mask = nm }) → Added b list n (2 ∷ id ∷ i ∷ o ∷ c ∷ nv ∷ nm ∷ 0 ∷ []) r after → o ≡ 0 → c ≡ 0 → Walked b list n (change_at v m w k i id) 1 r after
    unfolding position_change change_numbers
    position-new {nv} {nm} f g h s t = one-row h (position id i none (some (record { value = nv; mask = nm }))) (rw (s, t)) (change_at v m w k i id) (by f g)

pub ruleset places = (rules, position-neither, position-old, position-new)

-- the cells from one on
cells-drop : (v m : List ℕ) (i : ℕ) → length m ≡ length v → i < length v → drop i (cells v m) ≡ record { value = get_or v i 0; mask = get_or m i 0 } ∷ drop (suc i) (cells v m)
unfolding cells
cells-drop [] m i e h = absurd (omega arith)
cells-drop (x ∷ xs) [] i e h = absurd (omega (arith, e))
cells-drop (x ∷ xs) (y ∷ ys) zero e h = refl
cells-drop (x ∷ xs) (y ∷ ys) (suc i) e h = cells-drop xs ys i (omega (arith, e)) (omega arith)

cells-past : (v m : List ℕ) (i : ℕ) → length v ≤ i → drop i (cells v m) ≡ []
unfolding cells
cells-past [] m zero h = refl
cells-past [] m (suc i) h = refl
cells-past (x ∷ xs) [] zero h = refl
cells-past (x ∷ xs) [] (suc i) h = refl
cells-past (x ∷ xs) (y ∷ ys) zero h = absurd (omega arith)
cells-past (x ∷ xs) (y ∷ ys) (suc i) h = cells-past xs ys i (omega arith)

module _ (f : ℕ → Option Cell → Option Cell → List Change) (v m w k : List ℕ) (i : ℕ) (p : length m ≡ length v) (q : length k ≡ length w) where
  abbrev Rest : Type 0
  Rest = paired f i (drop i (cells v m)) (drop i (cells w k)) ≡ f i (cell_at v m i) (cell_at w k i) ++ paired f (suc i) (drop (suc i) (cells v m)) (drop (suc i) (cells w k))

  next_both : i < length v → i < length w → Rest
  unfolding paired
  next_both g h = rw (cell-there v m i g, cell-there w k i h, cells-drop v m i p g, cells-drop w k i q h)

  next-old : i < length v → length w ≤ i → Rest
  unfolding paired
  next-old g h = let z : length w ≤ suc i = omega arith in rw (cell-there v m i g, cell-none w k i h, cells-drop v m i p g, cells-past w k i h, cells-past w k (suc i) z)

  next-new : length v ≤ i → i < length w → Rest
  unfolding paired
  next-new g h = let z : length v ≤ suc i = omega arith in rw (cell-none v m i g, cell-there w k i h, cells-past v m i g, cells-past v m (suc i) z, cells-drop w k i q h)

  next-position : {e : ℕ} → i < e → ((c : ℕ) → length v ≤ c → length w ≤ c → e ≤ c) → Rest
  next-position {e} h least = step (ltb i (length v)) refl (ltb i (length w)) refl
    where
      step : (b : Bool) → ltb i (length v) ≡ b → (c : Bool) → ltb i (length w) ≡ c → Rest
      step true x true y = next_both (ltb-true i (length v) x) (ltb-true i (length w) y)
      step true x false y = next-old (ltb-true i (length v) x) (ltb-false i (length w) y)
      step false x true y = next-new (ltb-false i (length v) x) (ltb-true i (length w) y)
      step false x false y = absurd (omega (arith, least i (ltb-false i (length v) x) (ltb-false i (length w) y)))

-- the longer of two images
larger-second : (a b : ℕ) → a ≤ b → Larger a b b
larger-second a b h = record { first = h; second = omega arith; least = λ c p q. q }

larger-first : (a b : ℕ) → b < a → Larger a b a
larger-first a b h = record { first = omega arith; second = omega arith; least = λ c p q. p }

pub longer-is : (v w : List ℕ) {e : ℕ} → e ≡ pick (leb (length v) (length w)) (length w) (length v) → Larger (length v) (length w) e
longer-is v w {e} h = go (leb (length v) (length w)) refl h
  where
    go : (b : Bool) → leb (length v) (length w) ≡ b → e ≡ pick b (length w) (length v) → Larger (length v) (length w) e
    go true x y = subst (λ (z : ℕ). Larger (length v) (length w) z) (sym y) (larger-second (length v) (length w) (leb-true (length v) (length w) x))
    go false x y = subst (λ (z : ℕ). Larger (length v) (length w) z) (sym y) (larger-first (length v) (length w) (leb-false (length v) (length w) x))

-- the loop, up to e
pub record PositionsGo (v m w k : List ℕ) (id : ℕ) (b : Bool) (first : List ℕ) (n₀ e : ℕ) (list : List ℕ) (n i : ℕ) : Type 0 where
  pub going : Going b first n₀ (paired (position_change id) 0 (cells v m) (cells w k)) i list n (paired (position_change id) i (drop i (cells v m)) (drop i (cells w k)))
  pub inside : i ≤ e
  pub low : e ≤ 65536

module _ (v m w k : List ℕ) (id : ℕ) (b : Bool) (first : List ℕ) (n₀ : ℕ) {e : ℕ} (big : Larger (length v) (length w) e) where
  pub positions-start : length v ≤ 65536 → length w ≤ 65536 → PositionsGo v m w k id b first n₀ e first n₀ 0
  positions-start x y = record { going = going_start b first n₀ (paired (position_change id) 0 (cells v m) (cells w k)); inside = omega arith; low = big.least 65536 x y }

  module _ {list : List ℕ} {n i : ℕ} (g : PositionsGo v m w k id b first n₀ e list n i) where
    pub positions-end : e ≤ i → Walked b first n₀ (paired (position_change id) 0 (cells v m) (cells w k)) 65536 n list
    unfolding paired
    positions-end h =
        let x : length v ≤ i = omega (arith, big.first) in
        let y : length w ≤ i = omega (arith, big.second) in
        going_end g.going (rw (cells-past v m i x, cells-past w k i y)) (omega (arith, g.inside, g.low))

    pub positions-more : i < e → length m ≡ length v → length k ≡ length w → {r : ℕ} {after : List ℕ} → Walked b list n (position_change id i (cell_at v m i) (cell_at w k i)) 1 r after
        → PositionsGo v m w k id b first n₀ e after r (i + 1)
    positions-more h p q {r} {after} a =
        let s = going_step g.going (position_change id i (cell_at v m i) (cell_at w k i)) (paired (position_change id) (suc i) (drop (suc i) (cells v m)) (drop (suc i) (cells w k)))
        (next-position (position_change id) v m w k i p q h big.least) a in
        record {
          going = subst (λ (x : ℕ). Going b first n₀ (paired (position_change id) 0 (cells v m) (cells w k)) (i + 1) after r (paired (position_change id) x (drop x (cells v m)) (drop x (cells w k)))) (sym (add-one i)) s;
          inside = omega arith;
          low = g.low;
        }

pub ruleset walks = (rules, longer-is, positions-start, positions-end, positions-more)

-- `positions`
module _ (v m w k : List ℕ) (n : ℕ) (b : Bool) (list : List ℕ) (cs : List Change) {x : Bool} (e : x ≡ paired_masks v m) where
  abbrev fit : Bool
  fit = paired_masks v m && (paired_masks w k && leb n 536870912)

  pub old-unfit : not x ≡ true → WalkedIf fit b list n cs 65536 n list
  old-unfit f = walk-left b list n cs 65536 fit (one-false _ _ (sym e ∙ not-true x f))

  module _ (f : not x ≡ false) {y : Bool} (g : y ≡ paired_masks w k) where
    old-fit : paired_masks v m ≡ true
    old-fit = sym e ∙ not-false x f

    pub new-unfit : not y ≡ true → WalkedIf fit b list n cs 65536 n list
    new-unfit h = walk-left b list n cs 65536 fit (later-false _ _ old-fit (one-false _ _ (sym g ∙ not-true y h)))

    module _ (h : not y ≡ false) where
      pub rows-unfit : 536870912 < n → WalkedIf fit b list n cs 65536 n list
      rows-unfit i = walk-left b list n cs 65536 fit (later-false _ _ old-fit (later-false _ _ (sym g ∙ not-false y h) (lt-leb n 536870912 i)))

      pub all_fit : n ≤ 536870912 → {r : ℕ} {after : List ℕ} → Walked b list n cs 65536 r after → WalkedIf fit b list n cs 65536 r after
      all_fit i a = walk-taken fit (all_true _ _ old-fit (all_true _ _ (sym g ∙ not-false y h) (le-leb n 536870912 i))) a

-- what `walk` asks
pub walk-fits : (v m w k : List ℕ) {n : ℕ} {x y : Bool} → x ≡ paired_masks v m → not x ≡ false → y ≡ paired_masks w k → not y ≡ false → n ≤ 536870912
    → (length v ≤ 65536) × (length w ≤ 65536) × (length m ≡ length v) × (length k ≡ length w) × (n ≤ 536870912)
walk-fits v m w k {n} {x} {y} e f g h i = (image-low v m e (not-false x f), image-low w k g (not-false y h), mask-each v m e (not-false x f), mask-each w k g (not-false y h), i)

pub ruleset wholes = (rules, old-unfit, new-unfit, rows-unfit, all_fit, walk-fits)

-- for a caller whose images fit
pub the-positions : (v m w k : List ℕ) {n : ℕ} {b : Bool} {list : List ℕ} {cs : List Change} {r : ℕ} {after : List ℕ} → length v ≤ 65536 → length m ≡ length v → length w ≤ 65536 → length k ≡ length w → n ≤ 536870912
    → WalkedIf (paired_masks v m && (paired_masks w k && leb n 536870912)) b list n cs 65536 r after → Walked b list n cs 65536 r after
the-positions v m w k {n} e f g h i a = a.taken (all_true _ _ (masks-are v m e f) (all_true _ _ (masks-are w k g h) (le-leb n 536870912 i)))

-- `add`
pub bytes-added : {w : Bool} {list : List ℕ} {n kind id at a b c d ov om nv nm r : ℕ} {after : List ℕ} → n < 4294967296 → Put w list n (kind ∷ id ∷ at ∷ a ∷ b ∷ c ∷ d ∷ 0 ∷ []) r after
    → a ≡ ov → b ≡ om → c ≡ nv → d ≡ nm → Added w list n (kind ∷ id ∷ at ∷ ov ∷ om ∷ nv ∷ nm ∷ 0 ∷ []) r after
bytes-added h u p q x y = rw (← p, ← q, ← x, ← y) (put-added h u)

pub ruleset adds = (rules, bytes-added)
