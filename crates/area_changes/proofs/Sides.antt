-- The laws of the walk over all areas.
-- Assumes nothing.
use Prim.Native.Nat.{ℕ, zero, suc, ◌+◌, ◌*◌, ◌-◌, ◌<◌, ◌≤◌}
use mathlib.Core.Path.{◌≡◌, refl, ap, subst, sym, ◌∙◌}
use mathlib.Core.Bool.{Bool, true, false}
use mathlib.Core.List.{List, [], ◌∷◌, ◌++◌}
use mathlib.Core.Option.{Option, none, some}
use native.Mathlib.Omega.{arith}
use native.Mathlib.Numerals.{add-one}
use lib.ListN.{take, drop}
use lib.Seq.{drop-drop}
use lib.Dec.{ltb}
use borrow.Author.Rules.{rules}
use borrow.Author.Tests.{ltb-true, ltb-false}
use Rattle.format.specs.Lists.{pick}
use Rattle.format.specs.Fixups.{Fixup}
use Rattle.format.specs.Tables.{kept}
use Rattle.laws.specs.Rows.{area_at, areas_in, from}
use Rattle.next_areas.specs.Next.{next_kept}
use Rattle.next_areas.proofs.Laws.{next-is}
use Rattle.difference.specs.Module.{Cell, cells, sizes, split}
use Rattle.difference.specs.Changes.{Change, paired}
use Rattle.change_rows.specs.Walk.{Walked}
use Rattle.area_changes.specs.Here.{area_here, image_at}
use Rattle.change_rows.proofs.Going.{Going, going_end, going_start, going_step}
use Rattle.area_changes.proofs.Pairs.{image-none, image-there}

-- a stretch of cells
cells-none : (v : List ℕ) → cells v [] ≡ []
unfolding cells
cells-none [] = refl
cells-none (x ∷ xs) = refl

drop_cells : (n : ℕ) (v m : List ℕ) → drop n (cells v m) ≡ cells (drop n v) (drop n m)
unfolding cells
drop_cells zero v m = refl
drop_cells (suc n) [] m = refl
drop_cells (suc n) (x ∷ xs) [] = sym (cells-none (drop n xs))
drop_cells (suc n) (x ∷ xs) (y ∷ ys) = drop_cells n xs ys

take_cells : (n : ℕ) (v m : List ℕ) → take n (cells v m) ≡ cells (take n v) (take n m)
unfolding cells
take_cells zero v m = refl
take_cells (suc n) [] m = refl
take_cells (suc n) (x ∷ xs) [] = refl
take_cells (suc n) (x ∷ xs) (y ∷ ys) = ap (λ (l : List Cell). record { value = x; mask = y } ∷ l) (take_cells n xs ys)

stretch-cells : (size start : ℕ) (v m : List ℕ) → take size (drop start (cells v m)) ≡ cells (take size (drop start v)) (take size (drop start m))
stretch-cells size start v m = ap (take size) (drop_cells start v m) ∙ take_cells size (drop start v) (drop start m)

-- what stands here in front of what is left
unfoldable pub pick-head : Option (List Cell) → List (List Cell) → List (List Cell)
pick-head (some c) rest = c ∷ rest
pick-head none rest = rest

clash : {C : Type 0} {c : List Cell} → ◌≡◌ {A = Option (List Cell)} (some c) none → C
clash h = let z : ◌≡◌ {A = ℕ} 0 1 = cc in let y : ⊥ = omega arith in absurd y

-- the images of one side from area i on
module _ (rows : List ℕ) (n : ℕ) (v m : List ℕ) where
  unfoldable pub side_from : (i start : ℕ) → List (List Cell)
  side_from i start = split (sizes (from (area_at rows) i (n - i))) (drop start (cells v m))

  side-none : (i start : ℕ) → n ≤ i → side_from i start ≡ []
  unfolding side_from from sizes split
  side-none i start h = let z : n - i ≡ 0 = omega arith in rw z

  next-sizes : (i : ℕ) → sizes (from (area_at rows) (suc i) (n - suc i)) ≡ sizes (from (area_at rows) (next_kept rows n (i + 1)) (n - next_kept rows n (i + 1)))
  next-sizes i = ap (λ (k : ℕ). sizes (from (area_at rows) k (n - k))) (sym (add-one i)) ∙ (next-is rows n (i + 1)).same

  first-size : (i size : ℕ) → i < n → kept (area_at rows i) ≡ true → size ≡ (area_at rows i).size
      → sizes (from (area_at rows) i (n - i)) ≡ size ∷ sizes (from (area_at rows) (next_kept rows n (i + 1)) (n - next_kept rows n (i + 1)))
  unfolding sizes from
  first-size i size h k e =
      let z : n - i ≡ suc (n - suc i) = omega arith in
      ap (λ (x : ℕ). sizes (from (area_at rows) i x)) z ∙ (ap (λ (b : Bool). pick b ((area_at rows i).size ∷ sizes (from (area_at rows) (suc i) (n - suc i))) (sizes (from (area_at rows) (suc i) (n - suc i)))) k
      ∙ (ap (λ (x : ℕ). x ∷ sizes (from (area_at rows) (suc i) (n - suc i))) (sym e) ∙ ap (λ (x : List ℕ). size ∷ x) (next-sizes i)))

  side-there : (i start size : ℕ) → i < n → kept (area_at rows i) ≡ true → size ≡ (area_at rows i).size
      → side_from i start ≡ cells (take size (drop start v)) (take size (drop start m)) ∷ side_from (next_kept rows n (i + 1)) (start + size)
  unfolding side_from split
  side-there i start size h k e =
      let rest : List ℕ = sizes (from (area_at rows) (next_kept rows n (i + 1)) (n - next_kept rows n (i + 1))) in
      ap (λ (x : List ℕ). split x (drop start (cells v m))) (first-size i size h k e)
      ∙ (ap (λ (x : List Cell). x ∷ split rest (drop size (drop start (cells v m)))) (stretch-cells size start v m)
      ∙ ap (λ (x : List Cell). cells (take size (drop start v)) (take size (drop start m)) ∷ split rest x) (drop-drop size start (cells v m)))

  -- a turn of the walk on this side: what stands here, where it goes on, and what is left
  pub record Turned (i start size : ℕ) (here : Option (List Cell)) (j : ℕ) : Type 0 where
    pub inside : j ≤ n
    pub above : i ≤ j
    pub less : n - j ≤ n - i - 1
    pub covers : size ≤ 4294967296 * (j - i)
    pub kept_next : j < n → kept (area_at rows j) ≡ true
    pub left : side_from i start ≡ pick-head here (side_from j (start + size))
    pub over : here ≡ none → n ≤ i
    pub ended : here ≡ none → side_from j (start + size) ≡ []

  -- the next area, or the same behind the last
  module _ (i start : ℕ) (l : i ≤ n) (k : i < n → kept (area_at rows i) ≡ true) {size : ℕ} (small : size < 4294967296) (e : size ≡ pick (ltb i n) (area_at rows i).size 0) {j : ℕ} (f : j ≡ pick (ltb i n) (next_kept rows n (i + 1)) i) where
    turned-with : (b : Bool) → ltb i n ≡ b → size ≡ pick b (area_at rows i).size 0 → j ≡ pick b (next_kept rows n (i + 1)) i → Turned i start size (image_at v m start size i n) j
    unfolding pick-head
    turned-with true h p q =
        let u : i < n = ltb-true i n h in
        let next = next-is rows n (i + 1) in
        let there = image-there v m start size i n u in
        record {
          inside = omega (arith, next.within, q);
          above = omega (arith, next.above, q);
          less = omega (arith, next.above, q);
          covers = omega (arith, next.above, q, small);
          kept_next = λ y. ap (λ (x : ℕ). kept (area_at rows x)) q ∙ next.here (omega (arith, y, q));
          left = side-there i start size u (k u) p ∙ (ap (λ (x : ℕ). cells (take size (drop start v)) (take size (drop start m)) ∷ side_from x (start + size)) (sym q)
              ∙ ap (λ (x : Option (List Cell)). pick-head x (side_from j (start + size))) (sym there));
          over = λ y. clash (sym there ∙ y);
          ended = λ y. clash (sym there ∙ y);
        }
    turned-with false h p q =
        let u : n ≤ i = ltb-false i n h in
        let none_left : side_from j (start + size) ≡ [] = side-none j (start + size) (omega (arith, q)) in
        record {
          inside = omega (arith, q);
          above = omega (arith, q);
          less = omega (arith, q);
          covers = omega (arith, p);
          kept_next = λ y. absurd (omega (arith, q));
          left = side-none i start u ∙ (sym none_left ∙ ap (λ (x : Option (List Cell)). pick-head x (side_from j (start + size))) (sym (image-none v m start size i n u)));
          over = λ y. u;
          ended = λ y. none_left;
        }

    pub turned : Turned i start size (image_at v m start size i n) j
    turned = turned-with (ltb i n) refl e f

-- both sides
paired-with : (f : ℕ → Option (List Cell) → Option (List Cell) → List Change) (i : ℕ) (x y : Option (List Cell)) (p q : List (List Cell))
    → (x ≡ none → p ≡ []) → (y ≡ none → q ≡ []) → (x ≡ none → y ≡ none → ⊥) → paired f i (pick-head x p) (pick-head y q) ≡ f i x y ++ paired f (suc i) p q
unfolding paired pick-head
paired-with f i (some c) (some d) p q g h k = refl
paired-with f i (some c) none p q g h k = let z : q ≡ [] = h refl in rw z
paired-with f i none (some d) p q g h k = let z : p ≡ [] = g refl in rw z
paired-with f i none none p q g h k = absurd (k refl refl)

-- the walk: where it stands on each side, and what is left
pub record AreasGo (s : List ℕ) (fs : List Fixup) (t : List ℕ) (gs : List Fixup) (p : List ℕ) (a : ℕ) (v k : List ℕ) (q : List ℕ) (b : ℕ) (w l : List ℕ) (writing : Bool) (first list : List ℕ) (i j start begin id count : ℕ) : Type 0 where
  pub going : Going writing first 0 (paired (area_here s fs t gs) 0 (split (sizes (areas_in p a)) (cells v k)) (split (sizes (areas_in q b)) (cells w l))) (67584 * id) list count
      (paired (area_here s fs t gs) id (side_from p a v k i start) (side_from q b w l j begin))
  pub old-inside : i ≤ a
  pub new-inside : j ≤ b
  pub old-kept : i < a → kept (area_at p i) ≡ true
  pub new-kept : j < b → kept (area_at q j) ≡ true
  pub few : id ≤ i + j
  pub old-start : start ≤ 4294967296 * i
  pub new-start : begin ≤ 4294967296 * j
  pub old-low : a ≤ 64
  pub new-low : b ≤ 64

-- the side from its first kept area on
side-first : (rows : List ℕ) (n : ℕ) (v m : List ℕ) {i : ℕ} → i ≡ next_kept rows n 0 → split (sizes (areas_in rows n)) (cells v m) ≡ side_from rows n v m i 0
unfolding side_from areas_in
side-first rows n v m {i} e =
    let z : n ≡ n - 0 = omega arith in
    ap (λ (k : ℕ). split (sizes (from (area_at rows) 0 k)) (cells v m)) z
    ∙ (ap (λ (x : List ℕ). split x (cells v m)) (next-is rows n 0).same ∙ ap (λ (k : ℕ). split (sizes (from (area_at rows) k (n - k))) (cells v m)) (sym e))

module _ (s : List ℕ) (fs : List Fixup) (t : List ℕ) (gs : List Fixup) (p : List ℕ) (a : ℕ) (v k : List ℕ) (q : List ℕ) (b : ℕ) (w l : List ℕ) (writing : Bool) (first : List ℕ) where
  abbrev all : List Change
  all = paired (area_here s fs t gs) 0 (split (sizes (areas_in p a)) (cells v k)) (split (sizes (areas_in q b)) (cells w l))

  pub areas-start : {i j : ℕ} → i ≡ next_kept p a 0 → j ≡ next_kept q b 0 → a ≤ 64 → b ≤ 64 → AreasGo s fs t gs p a v k q b w l writing first first i j 0 0 0 0
  areas-start {i} {j} e f x y =
      let u = next-is p a 0 in
      let o = next-is q b 0 in
      record {
        going = subst (λ (z : List Change). Going writing first 0 all 0 first 0 z)
            (ap (λ (z : List (List Cell)). paired (area_here s fs t gs) 0 z (split (sizes (areas_in q b)) (cells w l))) (side-first p a v k e)
            ∙ ap (λ (z : List (List Cell)). paired (area_here s fs t gs) 0 (side_from p a v k i 0) z) (side-first q b w l f))
            (going_start writing first 0 all);
        old-inside = omega (arith, u.within, e);
        new-inside = omega (arith, o.within, f);
        old-kept = λ z. ap (λ (x : ℕ). kept (area_at p x)) e ∙ u.here (omega (arith, z, e));
        new-kept = λ z. ap (λ (x : ℕ). kept (area_at q x)) f ∙ o.here (omega (arith, z, f));
        few = omega arith;
        old-start = omega arith;
        new-start = omega arith;
        old-low = x;
        new-low = y;
      }

  module _ {list : List ℕ} {i j start begin id count : ℕ} (g : AreasGo s fs t gs p a v k q b w l writing first list i j start begin id count) where
    pub areas-end : a ≤ i → b ≤ j → Walked writing first 0 all 8650752 count list
    unfolding paired
    areas-end x y =
        let z : paired (area_here s fs t gs) id (side_from p a v k i start) (side_from q b w l j begin) ≡ [] =
        ap (λ (m : List (List Cell)). paired (area_here s fs t gs) id m (side_from q b w l j begin)) (side-none p a v k i start x)
        ∙ ap (λ (m : List (List Cell)). paired (area_here s fs t gs) id [] m) (side-none q b w l j begin y) in
        going_end g.going z (omega (arith, g.few, g.old-inside, g.new-inside, g.old-low, g.new-low))

    module _ (h : 0 < (a - i) + (b - j)) {size extent : ℕ} (x : (size ≡ pick (ltb i a) (area_at p i).size 0) × (size < 4294967296)) (y : (extent ≡ pick (ltb j b) (area_at q j).size 0) × (extent < 4294967296))
        {i' j' : ℕ} (m : i' ≡ pick (ltb i a) (next_kept p a (i + 1)) i) (n : j' ≡ pick (ltb j b) (next_kept q b (j + 1)) j) where
      old : Turned p a v k i start size (image_at v k start size i a) i'
      old = turned p a v k i start g.old-inside g.old-kept x.1 x.0 m

      new : Turned q b w l j begin extent (image_at w l begin extent j b) j'
      new = turned q b w l j begin g.new-inside g.new-kept y.1 y.0 n

      goes_on : paired (area_here s fs t gs) id (side_from p a v k i start) (side_from q b w l j begin)
          ≡ area_here s fs t gs id (image_at v k start size i a) (image_at w l begin extent j b) ++ paired (area_here s fs t gs) (suc id) (side_from p a v k i' (start + size)) (side_from q b w l j' (begin + extent))
      goes_on =
          ap (λ (z : List (List Cell)). paired (area_here s fs t gs) id z (side_from q b w l j begin)) old.left
          ∙ (ap (λ (z : List (List Cell)). paired (area_here s fs t gs) id (pick-head (image_at v k start size i a) (side_from p a v k i' (start + size))) z) new.left
          ∙ paired-with (area_here s fs t gs) id (image_at v k start size i a) (image_at w l begin extent j b) (side_from p a v k i' (start + size)) (side_from q b w l j' (begin + extent))
          old.ended new.ended (λ c d. omega (arith, old.over c, new.over d)))

      pub areas-more : {after : List ℕ} {c : ℕ} → Walked writing list count (area_here s fs t gs id (image_at v k start size i a) (image_at w l begin extent j b)) 67584 c after
          → AreasGo s fs t gs p a v k q b w l writing first after i' j' (start + size) (begin + extent) (id + 1) c
      areas-more {after} {c} walked =
          record {
            going = subst (λ (z : ℕ). Going writing first 0 all z after c (paired (area_here s fs t gs) (id + 1) (side_from p a v k i' (start + size)) (side_from q b w l j' (begin + extent)))) (omega arith)
                (subst (λ (z : ℕ). Going writing first 0 all (67584 * id + 67584) after c (paired (area_here s fs t gs) z (side_from p a v k i' (start + size)) (side_from q b w l j' (begin + extent)))) (sym (add-one id))
                (going_step g.going (area_here s fs t gs id (image_at v k start size i a) (image_at w l begin extent j b))
                (paired (area_here s fs t gs) (suc id) (side_from p a v k i' (start + size)) (side_from q b w l j' (begin + extent))) goes_on walked));
            old-inside = old.inside;
            new-inside = new.inside;
            old-kept = old.kept_next;
            new-kept = new.kept_next;
            few = omega (arith, g.few, g.old-inside, g.new-inside, old.less, new.less, old.inside, new.inside);
            old-start = omega (arith, g.old-start, old.covers, old.above);
            new-start = omega (arith, g.new-start, new.covers, new.above);
            old-low = g.old-low;
            new-low = g.new-low;
          }

-- fewer areas are left
after_less : (p : List ℕ) (a i : ℕ) {k : ℕ} → k ≡ pick (ltb i a) (next_kept p a (i + 1)) i → a - k ≤ a - i - 1
after_less p a i {k} e = step (ltb i a) refl e
  where
    step : (b : Bool) → ltb i a ≡ b → k ≡ pick b (next_kept p a (i + 1)) i → a - k ≤ a - i - 1
    step true h f = omega (arith, f, (next-is p a (i + 1)).above)
    step false h f = omega (arith, f, ltb-false i a h)

pub areas-less : (p : List ℕ) (a i : ℕ) {k : ℕ} → k ≡ pick (ltb i a) (next_kept p a (i + 1)) i → (q : List ℕ) (b j : ℕ) {l : ℕ} → l ≡ pick (ltb j b) (next_kept q b (j + 1)) j
    → 0 < (a - i) + (b - j) → (a - k) + (b - l) < (a - i) + (b - j)
areas-less p a i e q b j f h = omega (arith, after_less p a i e, after_less q b j f)

pub ruleset lesses = (rules, areas-less)

pub ruleset rounds = (rules, areas-start, areas-end, areas-more)
