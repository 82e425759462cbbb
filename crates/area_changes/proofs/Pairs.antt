-- The laws of the areas, pair by pair.
-- Assumes nothing.
use Prim.Native.Nat.{ℕ, min, ◌-◌, ◌<◌, ◌≤◌}
use mathlib.Core.Path.{◌≡◌, refl, ap, subst, sym, ◌∙◌}
use mathlib.Core.Bool.{Bool, true, false, not, ◌&&◌}
use mathlib.Core.List.{List, ◌++◌}
use mathlib.Core.Option.{Option, none, some}
use native.Mathlib.Omega.{arith}
use lib.ListN.{length, take, drop, length-drop, length-take}
use lib.Dec.{leb, ltb}
use borrow.Author.Rules.{rules}
use borrow.Author.Tests.{le-leb, leb-true, lt-leb, not-false, not-true, lt-ltb, le-ltb}
use Rattle.format.specs.Lists.{pick}
use Rattle.format.specs.Fixups.{Fixup}
use Rattle.difference.specs.Module.{Cell, cells}
use Rattle.difference.specs.Changes.{Change, area, newer, older, paired, position_change}
use Rattle.difference.specs.Rows.{change_numbers}
use Rattle.change_rows.specs.Room.{few_of, paired_masks}
use Rattle.change_rows.proofs.Room.{all_true, both_true, few-is, first-low, later-false, image-low, mask-each, masks-are, one-false, second-low, walk-left, walk-taken}
use Rattle.position_changes.proofs.Cells.{the-positions}
use Rattle.fixup_changes.proofs.Lacks.{the-fixups}
use Rattle.change_rows.specs.Walk.{Put, Walked, WalkedIf}
use Rattle.area_changes.specs.Here.{area_here, areas_fit, image_at}
use Rattle.fixup_changes.specs.Here.{lacking_in}
use Rattle.change_rows.proofs.Going.{no_row, one-row, put-added, walked_both}

-- `pair`
pub pair_is : {w : Bool} {list : List ℕ} {n : ℕ} {cs ds es : List Change} {r : ℕ} {one : List ℕ} {p : ℕ} {two : List ℕ} {q : ℕ} {after : List ℕ} (v k x l : List ℕ) {a b : ℕ}
    → length v ≤ 65536 → length k ≡ length v → length x ≤ 65536 → length l ≡ length x → n ≤ 536000000 → a ≤ 1024 → b ≤ 1024
    → WalkedIf (paired_masks v k && (paired_masks x l && leb n 536870912)) w list n cs 65536 r one → WalkedIf (few_of r a b) w one r ds 1024 p two → WalkedIf (few_of p b a) w two p es 1024 q after
    → Walked w list n (cs ++ (ds ++ es)) 67584 q after
pair_is {n = n} {r = r} {p = p} v k x l {a} {b} e f g h low am bm s t u =
    let c = the-positions v k x l e f g h (omega arith) s in
    let d = the-fixups (omega (arith, c.few)) am bm t in
    let o = the-fixups (omega (arith, c.few, d.few)) bm am u in
    walked_both c (walked_both d o {j = 2048} (omega arith)) (omega arith)

pub ruleset pairs = (rules, pair_is)

-- `area`
more : {w : Bool} {list : List ℕ} {n : ℕ} {cs : List Change} {r : ℕ} {after : List ℕ} → Walked w list n cs 1 r after → Walked w list n cs 67584 r after
more a = record { rows = a.rows; count = a.count; few = omega (arith, a.few) }

module _ (values masks : List ℕ) (start size i n : ℕ) where
  pub image-there : i < n → image_at values masks start size i n ≡ some (cells (take size (drop start values)) (take size (drop start masks)))
  unfolding image_at
  image-there h = rw (lt-ltb i n h)

  pub image-none : n ≤ i → image_at values masks start size i n ≡ none
  unfolding image_at
  image-none h = rw (le-ltb i n h)

module _ (s : List ℕ) (fs : List Fixup) (t : List ℕ) (gs : List Fixup) (id : ℕ) (v m : List ℕ) (start size i a : ℕ) (w k : List ℕ) (begin extent j b : ℕ) (writing : Bool) (list : List ℕ) (count : ℕ) where
  abbrev here : List Change
  here = area_here s fs t gs id (image_at v m start size i a) (image_at w k begin extent j b)

  by : {x y : Option (List Cell)} → image_at v m start size i a ≡ x → image_at w k begin extent j b ≡ y → here ≡ area_here s fs t gs id x y
  by {x} e f = ap (λ (z : Option (List Cell)). area_here s fs t gs id z (image_at w k begin extent j b)) e ∙ ap (area_here s fs t gs id x) f

  pub area-neither : a ≤ i → b ≤ j → Walked writing list count here 67584 count list
  unfolding area_here
  area-neither e f = no_row writing list count here 67584 (by (image-none v m start size i a e) (image-none w k begin extent j b f))

  pub area-old : i < a → b ≤ j → count ≤ 536000000 → {r : ℕ} {after : List ℕ} → Put writing list count (change_numbers (area older id)) r after → Walked writing list count here 67584 r after
  unfolding area_here
  area-old e f low h = more (one-row (put-added (omega arith) h) (area older id) refl here (by (image-there v m start size i a e) (image-none w k begin extent j b f)))

  pub area-new : a ≤ i → j < b → count ≤ 536000000 → {r : ℕ} {after : List ℕ} → Put writing list count (change_numbers (area newer id)) r after → Walked writing list count here 67584 r after
  unfolding area_here
  area-new e f low h = more (one-row (put-added (omega arith) h) (area newer id) refl here (by (image-none v m start size i a e) (image-there w k begin extent j b f)))

  pub area-both : i < a → j < b → {va ma wb kb : List ℕ} → va ≡ take size (drop start v) → ma ≡ take size (drop start m) → wb ≡ take extent (drop begin w) → kb ≡ take extent (drop begin k)
      → {r : ℕ} {after : List ℕ} → Walked writing list count (paired (position_change id) 0 (cells va ma) (cells wb kb) ++ (lacking_in false id s fs t gs ++ lacking_in true id t gs s fs)) 67584 r after
      → Walked writing list count here 67584 r after
  unfolding area_here
  area-both e f {va} {ma} {wb} {kb} p q x y {r} {after} h =
      let z : here ≡ paired (position_change id) 0 (cells va ma) (cells wb kb) ++ (lacking_in false id s fs t gs ++ lacking_in true id t gs s fs) =
      by (image-there v m start size i a e) (image-there w k begin extent j b f) ∙ rw (p, q, x, y) in
      subst (λ (cs : List Change). Walked writing list count cs 67584 r after) (sym z) h

-- what `pair` asks of the stretches
pub stretch-low : (xs : List ℕ) {ys : List ℕ} (start size : ℕ) → ys ≡ take size (drop start xs) → length xs ≤ 65536 → length ys ≤ 65536
stretch-low xs {ys} start size e h = let l : length ys ≡ length (take size (drop start xs)) = ap length e in omega (arith, l, length-take size (drop start xs), length-drop start xs)

pub stretch-long : (xs ys : List ℕ) {us vs : List ℕ} (start size : ℕ) → us ≡ take size (drop start xs) → vs ≡ take size (drop start ys) → length ys ≡ length xs → length vs ≡ length us
stretch-long xs ys {us} {vs} start size e f h =
    ap length f ∙ (length-take size (drop start ys) ∙ (ap (λ (n : ℕ). min size n) (length-drop start ys ∙ (ap (λ (n : ℕ). n - start) h ∙ sym (length-drop start xs))) ∙ sym (ap length e ∙ length-take size (drop start xs))))

pub ruleset areas = (rules, area-neither, area-old, area-new, area-both, stretch-low, stretch-long)

-- `size_at`, `after`
module _ (n i : ℕ) where
  pub pick-in : {A : Type 0} → i < n → (x y : A) → x ≡ pick (ltb i n) x y
  pick-in h x y = rw (lt-ltb i n h)

  pub pick-past : {A : Type 0} → n ≤ i → (x y : A) → y ≡ pick (ltb i n) x y
  pick-past h x y = rw (le-ltb i n h)

  pub size_in : i < n → {z s : ℕ} (x : ℕ) → s ≡ x → z ≡ s → z ≡ pick (ltb i n) x 0
  size_in h x e f = f ∙ (e ∙ pick-in h x 0)

  pub after-in : i < n → {r : ℕ} (x y : ℕ) → r ≡ x → r ≡ pick (ltb i n) x y
  after-in h x y e = e ∙ pick-in h x y

pub ruleset steps = (rules, pick-past, size_in, after-in)

-- `walkable`
module _ (a : ℕ) (v k : List ℕ) (m b : ℕ) (w l : List ℕ) (n : ℕ) {x : Bool} (e : x ≡ paired_masks v k) where
  pub unfit-old : not x ≡ true → false ≡ areas_fit a v k m b w l n
  unfolding areas_fit
  unfit-old f = sym (one-false _ _ (sym e ∙ not-true x f))

  module _ (f : not x ≡ false) {y : Bool} (g : y ≡ paired_masks w l) where
    first-fit : paired_masks v k ≡ true
    first-fit = sym e ∙ not-false x f

    pub unfit-new : not y ≡ true → false ≡ areas_fit a v k m b w l n
    unfolding areas_fit
    unfit-new h = sym (later-false _ _ first-fit (one-false _ _ (sym g ∙ not-true y h)))

    module _ (h : not y ≡ false) where
      second-fit : paired_masks w l ≡ true
      second-fit = sym g ∙ not-false y h

      pub unfit-first : 64 < a → false ≡ areas_fit a v k m b w l n
      unfolding areas_fit
      unfit-first i = sym (later-false _ _ first-fit (later-false _ _ second-fit (one-false _ _ (lt-leb a 64 i))))

      pub unfit-second : a ≤ 64 → 64 < b → false ≡ areas_fit a v k m b w l n
      unfolding areas_fit
      unfit-second i j = sym (later-false _ _ first-fit (later-false _ _ second-fit (later-false _ _ (le-leb a 64 i) (one-false _ _ (lt-leb b 64 j)))))

      pub fit-few : a ≤ 64 → b ≤ 64 → {z : Bool} → z ≡ few_of 0 m n → z ≡ areas_fit a v k m b w l n
      unfolding areas_fit
      fit-few i j o =
          o ∙ sym (ap (λ (t : Bool). t && (paired_masks w l && (leb a 64 && (leb b 64 && few_of 0 m n)))) first-fit
          ∙ (ap (λ (t : Bool). t && (leb a 64 && (leb b 64 && few_of 0 m n))) second-fit
          ∙ (ap (λ (t : Bool). t && (leb b 64 && few_of 0 m n)) (le-leb a 64 i) ∙ ap (λ (t : Bool). t && few_of 0 m n) (le-leb b 64 j))))

pub ruleset walkables = (rules, unfit-old, unfit-new, unfit-first, unfit-second, fit-few)

-- `areas`
module _ (a : ℕ) (v k : List ℕ) (m b : ℕ) (w l : List ℕ) (n : ℕ) {x : Bool} (e : x ≡ areas_fit a v k m b w l n) where
  pub areas-left : x ≡ false → (writing : Bool) (list : List ℕ) (cs : List Change) → WalkedIf (areas_fit a v k m b w l n) writing list 0 cs 8650752 0 list
  areas-left f writing list cs = walk-left writing list 0 cs 8650752 (areas_fit a v k m b w l n) (sym e ∙ f)

  module _ (f : x ≡ true) where
    pub areas-taken : {writing : Bool} {list : List ℕ} {cs : List Change} {r : ℕ} {after : List ℕ} → Walked writing list 0 cs 8650752 r after → WalkedIf (areas_fit a v k m b w l n) writing list 0 cs 8650752 r after
    areas-taken h = walk-taken (areas_fit a v k m b w l n) (sym e ∙ f) h

    parts : (paired_masks v k ≡ true) × ((paired_masks w l && (leb a 64 && (leb b 64 && few_of 0 m n))) ≡ true)
    unfolding areas_fit
    parts = both_true _ _ (sym e ∙ f)

    takes-old : length v ≤ 65536
    takes-old = image-low v k refl parts.0

    takes-old-masks : length k ≡ length v
    takes-old-masks = mask-each v k refl parts.0

    takes-new : length w ≤ 65536
    takes-new = image-low w l refl (both_true (paired_masks w l) (leb a 64 && (leb b 64 && few_of 0 m n)) parts.1).0

    takes-new-masks : length l ≡ length w
    takes-new-masks = mask-each w l refl (both_true (paired_masks w l) (leb a 64 && (leb b 64 && few_of 0 m n)) parts.1).0

    low : (leb a 64 ≡ true) × ((leb b 64 && few_of 0 m n) ≡ true)
    low = both_true (leb a 64) (leb b 64 && few_of 0 m n) (both_true (paired_masks w l) (leb a 64 && (leb b 64 && few_of 0 m n)) parts.1).1

    takes_first : a ≤ 64
    takes_first = leb-true a 64 low.0

    takes-second : b ≤ 64
    takes-second = leb-true b 64 (both_true (leb b 64) (few_of 0 m n) low.1).0

    takes-fixups : m ≤ 1024
    takes-fixups = first-low 0 m n refl (both_true (leb b 64) (few_of 0 m n) low.1).1

    takes-others : n ≤ 1024
    takes-others = second-low 0 m n refl (both_true (leb b 64) (few_of 0 m n) low.1).1

    pub takes_all : (length v ≤ 65536) × (length w ≤ 65536) × (length k ≡ length v) × (length l ≡ length w) × (m ≤ 1024) × (n ≤ 1024) × (a ≤ 64) × (b ≤ 64)
    takes_all = (takes-old, takes-new, takes-old-masks, takes-new-masks, takes-fixups, takes-others, takes_first, takes-second)

pub ruleset wholes = (rules, areas-left, areas-taken, takes_all)

-- for a caller whose rows and images are those of a reading
pub the-areas : (a : ℕ) (v k : List ℕ) (m b : ℕ) (w l : List ℕ) (n : ℕ) → length v ≤ 65536 → length k ≡ length v → length w ≤ 65536 → length l ≡ length w → m ≤ 1024 → n ≤ 1024 → a ≤ 64 → b ≤ 64
    → {writing : Bool} {list : List ℕ} {cs : List Change} {r : ℕ} {after : List ℕ} → WalkedIf (areas_fit a v k m b w l n) writing list 0 cs 8650752 r after → Walked writing list 0 cs 8650752 r after
unfolding areas_fit
the-areas a v k m b w l n e f g h i j o p t =
    t.taken (all_true _ _ (masks-are v k e f) (all_true _ _ (masks-are w l g h) (all_true _ _ (le-leb a 64 o) (all_true _ _ (le-leb b 64 p) (few-is 0 m n (omega arith) i j)))))
