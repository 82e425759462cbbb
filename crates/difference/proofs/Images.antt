-- Images: lists by rank are empty of changes exactly if they are equal, and equal images mean equal sizes, values and masks.
-- Assumes nothing.
use Prim.Native.Nat.{suc, ℕ, ◌+◌, ◌-◌, ◌≤◌, ◌<◌}
use mathlib.Core.Path.{◌≡◌, refl, ap, sym, ◌∙◌, subst}
use mathlib.Core.Bool.{Bool, true, false, ◌&&◌}
use mathlib.Core.List.{List, [], ◌++◌, ◌∷◌, map}
use mathlib.Core.Option.{some}
use lib.ListN.{drop, length, length-drop, take, take-append-drop}
use lib.Seq.{length-take-le}
use lib.Dec.{eqb}
use native.Mathlib.Omega.{arith}
use Rattle.format.specs.Lists.{pick}
use Rattle.format.specs.Tables.{Area, kept, kept_count, kept_size, total}
use Rattle.difference.specs.Module.{Cell, Module, cells, images, sizes, split}
use Rattle.difference.specs.Changes.{area_change, lacking, newer, older, paired, position, position_change, same_cell}
use Rattle.difference.proofs.Lists.{append-none, begun, eqb_same, eqb-true, pick-none}

and-true : (b c : Bool) → (b && c) ≡ true → (b ≡ true) × (c ≡ true)
and-true true c h = (refl, h)
and-true false c h = let z : ◌≡◌ {A = ℕ} 0 1 = cc in let y : ⊥ = omega arith in absurd y

cell-eq : {v w m n : ℕ} → v ≡ w → m ≡ n → ◌≡◌ {A = Cell} (record { value = v; mask = m }) (record { value = w; mask = n })
cell-eq e f = rw (e, f)

unequal : (m n : ℕ) → eqb m n ≡ false → m ≡ n → ⊥
unequal m n h e = let k : eqb m n ≡ true = ap (eqb m) (sym e) ∙ eqb_same m in let z : ◌≡◌ {A = ℕ} 0 1 = cc in omega arith

-- positions
same-cell : (id at : ℕ) (c d : Cell) → position_change id at (some c) (some d) ≡ [] → c ≡ d
unfolding position_change
same-cell id at c d h =
    let t = and-true (eqb c.value d.value) (eqb c.mask d.mask) (pick-none (same_cell (some c) (some d)) (position id at (some c) (some d)) h) in
    let e : c.value ≡ d.value = eqb-true c.value d.value t.0 in
    let f : c.mask ≡ d.mask = eqb-true c.mask d.mask t.1 in
    cell-eq e f

pub no-position : (id at : ℕ) (cs ds : List Cell) → paired (position_change id) at cs ds ≡ [] → cs ≡ ds
unfolding paired position_change
no-position id at [] [] h = refl
no-position id at (c ∷ cs) [] h = begun h
no-position id at [] (d ∷ ds) h = begun h
no-position id at (c ∷ cs) (d ∷ ds) h =
    let k = append-none (position_change id at (some c) (some d)) (paired (position_change id) (suc at) cs ds) h in
    let e : c ≡ d = same-cell id at c d k.0 in
    let f : cs ≡ ds = no-position id (suc at) cs ds k.1 in
    rw (e, f)

pub position-none : (id at : ℕ) (cs : List Cell) → paired (position_change id) at cs cs ≡ []
unfolding paired position_change
position-none id at [] = refl
position-none id at (c ∷ cs) = rw (eqb_same c.value, eqb_same c.mask, position-none id (suc at) cs)

-- areas
pub record NoArea (a b : Module) (i : ℕ) (ps qs : List (List Cell)) : Type 0 where
  pub equal : ps ≡ qs
  pub older-has : (id : ℕ) → i ≤ id → id < i + length ps → lacking older id a b ≡ []
  pub newer-has : (id : ℕ) → i ≤ id → id < i + length ps → lacking newer id b a ≡ []

more-ids : (P : ℕ → Type 0) (i n : ℕ) → P i → ((id : ℕ) → suc i ≤ id → id < suc i + n → P id) → (id : ℕ) → i ≤ id → id < i + suc n → P id
more-ids P i n p h id l u = step (eqb id i) refl
  where
    step : (t : Bool) → eqb id i ≡ t → P id
    step true e = subst P (sym (eqb-true id i e)) p
    step false e = h id (above e) (omega arith)
      where
        above : eqb id i ≡ false → suc i ≤ id
        above f = omega (arith, unequal id i f)

pub no-area : (a b : Module) (i : ℕ) (ps qs : List (List Cell)) → paired (area_change a b) i ps qs ≡ [] → NoArea a b i ps qs
unfolding paired area_change
no-area a b i [] [] h = record { equal = refl; older-has = λ id l u. absurd (omega arith); newer-has = λ id l u. absurd (omega arith) }
no-area a b i (p ∷ ps) [] h = begun h
no-area a b i [] (q ∷ qs) h = begun h
no-area a b i (p ∷ ps) (q ∷ qs) h =
    let k = append-none (area_change a b i (some p) (some q)) (paired (area_change a b) (suc i) ps qs) h in
    let j = append-none (paired (position_change i) 0 p q) (lacking older i a b ++ lacking newer i b a) k.0 in
    let l = append-none (lacking older i a b) (lacking newer i b a) j.1 in
    let e : p ≡ q = no-position i 0 p q j.0 in
    let r = no-area a b (suc i) ps qs k.1 in
    let f : ps ≡ qs = r.equal in
    record {
      equal = rw (e, f);
      older-has = more-ids (λ (id : ℕ). lacking older id a b ≡ []) i (length ps) l.0 r.older-has;
      newer-has = more-ids (λ (id : ℕ). lacking newer id b a ≡ []) i (length ps) l.1 r.newer-has;
    }

pub area-none : (a b : Module) → ((id : ℕ) → lacking older id a b ≡ []) → ((id : ℕ) → lacking newer id b a ≡ []) → (i : ℕ) (ps : List (List Cell))
    → paired (area_change a b) i ps ps ≡ []
unfolding paired area_change
area-none a b h k i [] = refl
area-none a b h k i (p ∷ ps) = rw (position-none i 0 p, h i, k i, area-none a b h k (suc i) ps)

-- sizes
pub sum : List ℕ → ℕ
sum [] = 0
sum (z ∷ zs) = z + sum zs

total-with : (t : Bool) (z n : ℕ) (zs : List ℕ) → n ≡ sum zs → pick t z 0 + n ≡ sum (pick t (z ∷ zs) zs)
unfolding sum
total-with true z n zs h = omega (arith, h)
total-with false z n zs h = omega (arith, h)

pub total-sum : (areas : List Area) → total areas ≡ sum (sizes areas)
unfolding total sizes kept_size sum
total-sum [] = refl
total-sum (a ∷ rest) = total-with (kept a) a.size (total rest) (sizes rest) (total-sum rest)

count-with : (t : Bool) (z n : ℕ) (zs : List ℕ) → length zs ≡ n → length (pick t (z ∷ zs) zs) ≡ pick t 1 0 + n
count-with true z n zs h = omega (arith, h)
count-with false z n zs h = omega (arith, h)

pub sizes-count : (areas : List Area) → length (sizes areas) ≡ kept_count areas
unfolding sizes kept_count
sizes-count [] = refl
sizes-count (a ∷ rest) = count-with (kept a) a.size (kept_count rest) (sizes rest) (sizes-count rest)

pub split-count : (zs : List ℕ) (cs : List Cell) → length (split zs cs) ≡ length zs
unfolding split
split-count [] cs = refl
split-count (z ∷ zs) cs = ap suc (split-count zs (drop z cs))

-- equal parts are of equal sizes, and of equal wholes
pub record Parts (zs ys : List ℕ) (cs ds : List Cell) : Type 0 where
  pub sizes : zs ≡ ys
  pub whole : cs ≡ ds

empty : (cs : List Cell) → length cs ≡ 0 → cs ≡ []
empty [] h = refl
empty (c ∷ cs) h = let y : ⊥ = omega (arith, h) in absurd y

heads : {A : Type 0} {x y : A} {xs ys : List A} → x ∷ xs ≡ y ∷ ys → (x ≡ y) × (xs ≡ ys)
heads h = (cc, cc)

pub split_parts : (zs ys : List ℕ) (cs ds : List Cell) → length cs ≡ sum zs → length ds ≡ sum ys → split zs cs ≡ split ys ds → Parts zs ys cs ds
unfolding split sum
split_parts [] [] cs ds l m h = record { sizes = refl; whole = empty cs l ∙ sym (empty ds m) }
split_parts (z ∷ zs) [] cs ds l m h = begun h
split_parts [] (y ∷ ys) cs ds l m h = begun (sym h)
split_parts (z ∷ zs) (y ∷ ys) cs ds l m h =
    let k = heads h in
    let e : take z cs ≡ take y ds = k.0 in
    let lz : length (take z cs) ≡ z = length-take-le z cs (omega (arith, l)) in
    let ly : length (take y ds) ≡ y = length-take-le y ds (omega (arith, m)) in
    let zy : z ≡ y = sym lz ∙ (ap length e ∙ ly) in
    let r = split_parts zs ys (drop z cs) (drop y ds) (omega (arith, length-drop z cs, l)) (omega (arith, length-drop y ds, m)) k.1 in
    let zsys : zs ≡ ys = r.sizes in
    let d : drop z cs ≡ drop y ds = r.whole in
    record {
      sizes = rw (zy, zsys);
      whole = sym (take-append-drop z cs) ∙ (ap (λ (x : List Cell). x ++ drop z cs) e ∙ (ap (λ (x : List Cell). take y ds ++ x) d ∙ take-append-drop y ds));
    }

-- values and masks back from the positions
pub cells-values : (vs ms : List ℕ) → length vs ≡ length ms → map (λ (c : Cell). c.value) (cells vs ms) ≡ vs
unfolding cells
cells-values [] ms h = refl
cells-values (v ∷ vs) [] h = let y : ⊥ = omega (arith, h) in absurd y
cells-values (v ∷ vs) (m ∷ ms) h = ap (λ (x : List ℕ). v ∷ x) (cells-values vs ms (omega (arith, h)))

pub cells-masks : (vs ms : List ℕ) → length vs ≡ length ms → map (λ (c : Cell). c.mask) (cells vs ms) ≡ ms
unfolding cells
cells-masks [] [] h = refl
cells-masks [] (m ∷ ms) h = let y : ⊥ = omega (arith, h) in absurd y
cells-masks (v ∷ vs) [] h = let y : ⊥ = omega (arith, h) in absurd y
cells-masks (v ∷ vs) (m ∷ ms) h = ap (λ (x : List ℕ). m ∷ x) (cells-masks vs ms (omega (arith, h)))

pub cells-length : (vs ms : List ℕ) → length vs ≡ length ms → length (cells vs ms) ≡ length vs
unfolding cells
cells-length [] ms h = refl
cells-length (v ∷ vs) [] h = let y : ⊥ = omega (arith, h) in absurd y
cells-length (v ∷ vs) (m ∷ ms) h = ap suc (cells-length vs ms (omega (arith, h)))
