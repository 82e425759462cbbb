-- Placing a pair writes inside the image of its area alone.
-- Assumes nothing.
use Prim.Native.Nat.{ℕ, zero, suc, ◌+◌, ◌≤◌, ◌<◌}
use mathlib.Core.Path.{◌≡◌, refl, sym, ap, ◌∙◌}
use mathlib.Core.Bool.{Bool, true, false}
use mathlib.Core.List.{List, [], ◌∷◌}
use mathlib.Core.Option.{Option, none, some}
use native.Mathlib.Omega.{arith}
use lib.Dec.{eqb, ltb}
use lib.ListN.{length, get_or, set, take, drop}
use lib.Seq.{take-set-le, drop-set-lt}
use borrow.Author.Tests.{ltb-true}
use Rattle.format.specs.Lists.{pick}
use Rattle.format.specs.Header.{Form}
use Rattle.format.specs.Pairs.{Content, Relocation}
use Rattle.format.specs.Outcome.{Outcome, fine, fold}
use Rattle.format.specs.Tables.{Area, Tables, kept, rank, offset}
use Rattle.format.specs.Placing.{State, Walk, extent, place_at, place_line, place_in, walk_by}
use Rattle.format.specs.WorkLine.{in_line}
use Rattle.laws.specs.PairRows.{image_of, walk_of}
use Rattle.laws.specs.Spared.{Spared}
use Rattle.laws.proofs.Outcomes.{chain}
use Rattle.laws.proofs.Placing.{walked}

spared-none : (start size : ℕ) (ms : List ℕ) → Spared start size ms ms
spared-none start size ms = record { before = refl; behind = refl }

spared-then : {start size : ℕ} {a b c : List ℕ} → Spared start size a b → Spared start size b c → Spared start size a c
spared-then v w = record { before = w.before ∙ v.before; behind = w.behind ∙ v.behind }

spared-put : (start size : ℕ) (ms : List ℕ) (p m : ℕ) → p < size → Spared start size ms (set ms (start + p) m)
spared-put start size ms p m h = record {
  before = take-set-le start ms (start + p) m (omega arith);
  behind = drop-set-lt (start + size) ms (start + p) m (omega arith);
}

walk-spares : (w : Walk) (xs : List ℕ) (n entry position : ℕ) (ms : List ℕ) → Spared w.start w.size ms (image_of w xs n entry position ms)
unfolding image_of
walk-spares w xs zero entry position ms = spared-none w.start w.size ms
walk-spares w xs (suc n) entry position ms =
    go (ltb position w.size) refl (eqb (get_or w.work.keeps entry 0) 1)
    (walk-spares w xs n (suc entry) (suc position) (set ms (w.start + position) (get_or xs entry 0))) (walk-spares w xs n (suc entry) position ms)
  where
    go : (t : Bool) → ltb position w.size ≡ t → (k : Bool)
        → Spared w.start w.size (set ms (w.start + position) (get_or xs entry 0)) (image_of w xs n (suc entry) (suc position) (set ms (w.start + position) (get_or xs entry 0)))
        → Spared w.start w.size ms (image_of w xs n (suc entry) position ms)
        → Spared w.start w.size ms
        (pick t (pick k (image_of w xs n (suc entry) (suc position) (set ms (w.start + position) (get_or xs entry 0))) (image_of w xs n (suc entry) position ms)) ms)
    go true e true on off = spared-then (spared-put w.start w.size ms position (get_or xs entry 0) (ltb-true position w.size e)) on
    go true e false on off = off
    go false e k on off = spared-none w.start w.size ms

still : (s u : State) → ◌≡◌ {A = Outcome State} (fine s) (fine u) → u.masks ≡ s.masks
still s u h = let same : s ≡ u = cc in ap (λ (x : State). x.masks) (sym same)

-- no mask changes outside the image of the pair's area
pub a-pair-spares-the-others : (fm : Form) (t : Tables) (place : ℕ) (c : Content) (r : Relocation) (o : Option ℕ) (s u : State)
    → place_in fm t place c r s o ≡ fine u → Spared (offset t.areas r.area) (extent t.areas r.area) s.masks u.masks
unfolding place_line place_at walk_of walk_by
a-pair-spares-the-others fm t place c r none s u h = let e = still s u h in record { before = rw e; behind = rw e }
a-pair-spares-the-others fm t place c r (some id) s u h =
    let k = chain (fold (in_line fm.address_length (length c.bytes) place) 0 r.fragments) _ u h in
    let w = walk_of fm t place id c r in
    let e = (walked w (fm.address_length + length c.bytes) 0 c.address s u k.second).masks in
    let d = walk-spares w w.work.masks (fm.address_length + length c.bytes) 0 c.address s.masks in
    record { before = rw e d.before; behind = rw e d.behind }

-- an index behind the last area is no area's
no-area : (k : ℕ) (areas : List Area) (i : ℕ) → length areas ≤ i → rank k areas i ≡ none
unfolding rank
no-area k [] i h = refl
no-area k (a ∷ rest) zero h = absurd (omega arith)
no-area k (a ∷ rest) (suc i) h = no-area (k + pick (kept a) 1 0) rest i (omega arith)

pub no-area-no-mask : (fm : Form) (t : Tables) (place : ℕ) (c : Content) (r : Relocation) (s u : State) → length t.areas ≤ r.area
    → place_in fm t place c r s (rank 0 t.areas r.area) ≡ fine u → u.masks ≡ s.masks
no-area-no-mask fm t place c r s u h e = still s u (rw (no-area 0 t.areas r.area h) at e)
