-- The laws of the way in.
-- Assumes nothing.
use Prim.Native.Nat.{ℕ, ◌+◌, ◌<◌, ◌≤◌}
use mathlib.Core.Path.{◌≡◌, refl, sym, ◌∙◌}
use mathlib.Core.Bool.{Bool, true, false, not, ◌&&◌}
use mathlib.Core.List.{List}
use native.Mathlib.Omega.{arith}
use native.Mathlib.Numerals.{add-one}
use lib.ListN.{length, drop, get_or, drop_of_length-le}
use lib.Seq.{drop-cons}
use lib.Dec.{eqb, leb}
use borrow.Author.Rules.{rules}
use borrow.Author.Tests.{lt-ltb, le-ltb, le-leb, lt-leb, leb-true}
use Rattle.format.specs.Reading.{lent_room, first_high, allowed, takes}
use Rattle.scan.proofs.Laws.Tests.{was-no, was-yes}
use Rattle.way_in.specs.WayIn.{high_of, Caps, roomy, fits_from, Rooms, GateIs, takes_by}
use Rattle.way_in.specs.declared.Lent.{Lent}
use Rattle.std.specs.Prelude.{Ok, Err}

-- `find_high`
pub record Looking (s : List ℕ) (i : ℕ) : Type 0 where
  pub within : i ≤ length s
  pub rest : first_high 0 s ≡ first_high i (drop i s)

pub look-start : (s : List ℕ) → Looking s 0
look-start s = record { within = omega arith; rest = refl }

module _ {s : List ℕ} {i : ℕ} (w : Looking s i) where
  pub look-end : length s ≤ i → first_high 0 s ≡ high_of (length s) i
  unfolding first_high
  look-end h = w.rest ∙ rw (drop_of_length-le s h, le-ltb i (length s) h)

  module _ (h : i < length s) where
    pub look-found : 128 ≤ get_or s i 0 → first_high 0 s ≡ high_of (length s) i
    unfolding first_high
    look-found g = w.rest ∙ rw (drop-cons s i 0 h, le-leb 128 (get_or s i 0) g, lt-ltb i (length s) h)

    pub look-more : get_or s i 0 < 128 → Looking s (i + 1)
    unfolding first_high
    look-more g = record { within = omega arith; rest = w.rest ∙ rw (drop-cons s i 0 h, lt-leb 128 (get_or s i 0) g, add-one) }

pub ruleset looking = (rules, look-start, look-end, look-found, look-more)

-- `highest`
pub record Below (s : List ℕ) (h i : ℕ) : Type 0 where
  pub within : i ≤ length s
  pub rest : h < 128 → Looking s i

pub below-start : (s : List ℕ) (h : ℕ) → Below s h 0
below-start s h = record { within = omega arith; rest = λ _. look-start s }

module _ {s : List ℕ} {h i : ℕ} (w : Below s h i) where
  pub below_end : length s ≤ i → Caps h s
  unfolding first_high
  below_end j = record { no-high = λ k. (w.rest k).rest ∙ rw (drop_of_length-le s j) }

  pub below_more : i < length s → {g : ℕ} → (h ≤ g) × (get_or s i 0 ≤ g) → Below s g (i + 1)
  below_more j b = record { within = omega arith; rest = λ k. look-more (w.rest (omega (arith, b.0))) j (omega (arith, b.1)) }

pub ruleset below = (rules, below-start, below_end, below_more)

-- `first_high`: where the highest byte is below 128, there is no first high one
pub high-none : {s : List ℕ} {h : ℕ} → Caps h s → h < 128 → first_high 0 s ≡ high_of (length s) (length s)
high-none {s} w k = w.no-high k ∙ rw (le-ltb (length s) (length s) (omega arith))

pub ruleset highs = (rules, high-none)

-- `has_room`
module _ (b : Lent) where
  pub room-areas : b.areas < 448 → false ≡ roomy b
  unfolding roomy lent_room
  room-areas h = rw (lt-leb 448 b.areas h)

  module _ (h : 448 ≤ b.areas) where
    pub room-symbols : b.symbols < 5120 → false ≡ roomy b
    unfolding roomy lent_room
    room-symbols i = rw (le-leb 448 b.areas h, lt-leb 5120 b.symbols i)

    module _ (i : 5120 ≤ b.symbols) where
      pub room-values : b.values < 65536 → false ≡ roomy b
      unfolding roomy lent_room
      room-values j = rw (le-leb 448 b.areas h, le-leb 5120 b.symbols i, lt-leb 65536 b.values j)

      module _ (j : 65536 ≤ b.values) where
        pub room-masks : b.masks < 65536 → false ≡ roomy b
        unfolding roomy lent_room
        room-masks k = rw (le-leb 448 b.areas h, le-leb 5120 b.symbols i, le-leb 65536 b.values j, lt-leb 65536 b.masks k)

        pub room-fixups : 65536 ≤ b.masks → leb 9216 b.fixups ≡ roomy b
        unfolding roomy lent_room
        room-fixups k = rw (le-leb 448 b.areas h, le-leb 5120 b.symbols i, le-leb 65536 b.values j, le-leb 65536 b.masks k)

pub ruleset rooming = (rules, room-areas, room-symbols, room-values, room-masks, room-fixups)

both_true : (x y : Bool) → (x && y) ≡ true → (x ≡ true) × (y ≡ true)
both_true true y h = (refl, h)
both_true false y h = absurd (let z : ◌≡◌ {A = ℕ} 0 1 = cc in omega arith)

rooms : (b : Lent) → roomy b ≡ true → Rooms b.areas b.symbols b.values b.masks b.fixups
unfolding roomy lent_room
rooms b h =
    let a = both_true _ (leb 9216 b.fixups) h in
    let c = both_true _ (leb 65536 b.masks) a.0 in
    let d = both_true _ (leb 65536 b.values) c.0 in
    let e = both_true (leb 448 b.areas) (leb 5120 b.symbols) d.0 in
    record {
      for-areas = leb-true 448 b.areas e.0;
      for-symbols = leb-true 5120 b.symbols e.1;
      for-values = leb-true 65536 b.values d.1;
      for-masks = leb-true 65536 b.masks c.1;
      for-fixups = leb-true 9216 b.fixups a.1;
    }

-- `fits_from`
module _ (at n : ℕ) (b : Lent) where
  pub from-behind : n < at → false ≡ fits_from at n b
  unfolding fits_from
  from-behind h = rw (lt-leb at n h)

  module _ (h : at ≤ n) where
    pub from-long : 65536 < n → false ≡ fits_from at n b
    unfolding fits_from
    from-long i = rw (le-leb at n h, lt-leb n 65536 i)

    pub from-room : n ≤ 65536 → {r : Bool} → r ≡ roomy b → r ≡ fits_from at n b
    unfolding fits_from
    from-room i e = e ∙ rw (le-leb at n h, le-leb n 65536 i)

pub ruleset fitting = (rules, from-behind, from-long, from-room)

-- what it says, and when it says so
pub fits-from-says : (at n : ℕ) (b : Lent) → fits_from at n b ≡ true → (at ≤ n) × (n ≤ 65536) × (Rooms b.areas b.symbols b.values b.masks b.fixups)
unfolding fits_from
fits-from-says at n b h =
    let a = both_true (leb at n && leb n 65536) (roomy b) h in
    let c = both_true (leb at n) (leb n 65536) a.0 in
    (leb-true at n c.0, leb-true n 65536 c.1, rooms b a.1)

pub says-fits-from : (at n : ℕ) (b : Lent) → at ≤ n → n ≤ 65536 → Rooms b.areas b.symbols b.values b.masks b.fixups → fits_from at n b ≡ true
unfolding fits_from roomy lent_room
says-fits-from at n b h i w =
    rw (le-leb at n h, le-leb n 65536 i, le-leb 448 b.areas w.for-areas, le-leb 5120 b.symbols w.for-symbols, le-leb 65536 b.values w.for-values, le-leb 65536 b.masks w.for-masks, le-leb 9216 b.fixups w.for-fixups)

-- `admit`
module _ (s : List ℕ) (b : Lent) {r : Bool} (e : r ≡ roomy b) where
  pub gate-1 : not r ≡ true → GateIs b s (Err (record { number = 1; place = 0 }))
  unfolding allowed roomy
  gate-1 h = record { answered = rw (sym e ∙ was-no r h); passed = tt }

  module _ (h : not r ≡ false) where
    pub gate-2 : 65536 < length s → GateIs b s (Err (record { number = 2; place = 0 }))
    unfolding allowed roomy
    gate-2 i = record { answered = rw (sym e ∙ was-yes r h, lt-leb (length s) 65536 i); passed = tt }

    module _ (i : length s ≤ 65536) {x : ℕ} (f : first_high 0 s ≡ high_of (length s) x) where
      pub gate-3 : x < length s → GateIs b s (Err (record { number = 3; place = x }))
      unfolding allowed roomy
      gate-3 j = record { answered = rw (sym e ∙ was-yes r h, le-leb (length s) 65536 i, f, lt-ltb x (length s) j); passed = tt }

      pub gate-4 : length s ≤ x → GateIs b s (Ok tt)
      unfolding allowed roomy
      gate-4 j = record { answered = rw (sym e ∙ was-yes r h, le-leb (length s) 65536 i, f, le-ltb x (length s) j); passed = (i, rooms b (sym e ∙ was-yes r h)) }

pub ruleset gating = (rules, gate-1, gate-2, gate-3, gate-4)

-- `takes`
module _ {ended : Bool} (radix : ℕ) where
  pub takes-ended : ended ≡ true → eqb radix 16 ≡ takes ended radix
  unfolding takes
  takes-ended e = rw e

  pub takes-plain : ended ≡ false → true ≡ takes ended radix
  unfolding takes
  takes-plain e = rw e

-- `takes_by`
module _ {every : Bool} (ended : Bool) (radix : ℕ) where
  pub takes-every : every ≡ true → true ≡ takes_by every ended radix
  unfolding takes_by
  takes-every e = rw e

  pub takes-not-every : every ≡ false → {t : Bool} → t ≡ takes ended radix → t ≡ takes_by every ended radix
  unfolding takes_by
  takes-not-every e h = rw e h

pub ruleset radices = (rules, takes-ended, takes-plain, takes-every, takes-not-every)
