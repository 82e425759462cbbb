-- The mode step: what is laid by a row's numbers is the definition's step of the class.
-- Assumes nothing.
use Prim.Native.Nat.{ℕ, min, ◌+◌, ◌-◌, ◌<◌, ◌≤◌}
use mathlib.Core.Path.{◌≡◌, refl, ◌∙◌}
use mathlib.Core.Bool.{Bool, false, true}
use mathlib.Core.List.{List}
use mathlib.Core.Option.{none, some}
use native.Mathlib.Omega.{arith}
use lib.Dec.{lit≤}
use lib.ListN.{get_or, length, set, take}
use borrow.Author.Rules.{rules}
use borrow.Author.Tests.{le-leb, le-ltb, lt-ltb, ne_eqb}
use Rattle.std.specs.Prelude.{Option as Answer, Some}
use Rattle.format.specs.Lists.{over, pick}
use Rattle.format.specs.Number.{join}
use Rattle.format.specs.Mode.{Addr11, Addr16, Addr19, Addr24, Byte, Class, Other, touched_of}
use Rattle.format.specs.ModeStep.{fronted, keeps_by, masks_by, number_by_of, values_by}
use Rattle.laws.specs.Tab as tab
use Rattle.laws.proofs.Fill.{over-step}
use Rattle.class_rows.specs.declared.row.Row.{Row}
use Rattle.class_rows.specs.Row.{row_of}
use Rattle.mode_step.specs.Step.{Laid, LaidAt, Laying, TwoLaid, Lain, Modified, Room, cell, fits, opcode_of}

-- `lay_one`
pub laid-at : (op mask size i : ℕ) (vs ms ks : List ℕ) {v m k : ℕ} → v ≡ cell 1 op i → m ≡ cell 1 mask i → k ≡ cell size 1 i → LaidAt op mask size i vs ms ks (set vs i v) (set ms i m) (set ks i k)
laid-at op mask size i vs ms ks ev em ek = record { values = rw ev; masks = rw em; keeps = rw ek }

-- `lay`
module _ {op mask size t : ℕ} {vs ms ks vs' ms' ks' : List ℕ} {i : ℕ} (l : Laying op mask size t vs ms ks vs' ms' ks' i) where
  lays-one-more : {vs'' ms'' ks'' : List ℕ} → i < t → LaidAt op mask size i vs' ms' ks' vs'' ms'' ks'' → Laying op mask size t vs ms ks vs'' ms'' ks'' (i + 1)
  lays-one-more h d = record {
    room = l.room;
    within = omega arith;
    cells = record {
      values = d.values ∙ over-step (cell 1 op) i vs vs' (cell 1 op i) l.cells.values refl (omega (arith, l.room.values));
      masks = d.masks ∙ over-step (cell 1 mask) i ms ms' (cell 1 mask i) l.cells.masks refl (omega (arith, l.room.masks));
      keeps = d.keeps ∙ over-step (cell size 1) i ks ks' (cell size 1 i) l.cells.keeps refl (omega (arith, l.room.keeps));
    };
  }

  lays_all : t ≤ i → Lain op mask size t vs ms ks vs' ms' ks'
  lays_all h = let all : i ≡ t = omega (arith, l.within) in rw all at l.cells

-- `lay_two`
module _ {op mask size i t : ℕ} {vs ms ks vs₁ ms₁ ks₁ : List ℕ} (h : i < t) (d₁ : LaidAt op mask size i vs ms ks vs₁ ms₁ ks₁) where
  pub two-first : t ≤ i + 1 → TwoLaid op mask size i t vs ms ks vs₁ ms₁ ks₁
  two-first e = record { more = λ l. let z : i + 1 ≡ min t (i + 2) = omega arith in rw z at (lays-one-more l h d₁) }

  pub two-both : i + 1 < t → {vs₂ ms₂ ks₂ : List ℕ} → LaidAt op mask size (i + 1) vs₁ ms₁ ks₁ vs₂ ms₂ ks₂ → TwoLaid op mask size i t vs ms ks vs₂ ms₂ ks₂
  two-both e d₂ = record { more = λ l. let z : i + 1 + 1 ≡ min t (i + 2) = omega arith in rw z at (lays-one-more (lays-one-more l h d₁) e d₂) }

-- parts as long as before have room for the next entry
pub room-one : {t i : ℕ} {vs ms ks : List ℕ} → Room t vs ms ks → i < t → Room (i + 1) vs ms ks
room-one h l = record { values = omega (arith, h.values); masks = omega (arith, h.masks); keeps = omega (arith, h.keeps) }

pub room-still : {t : ℕ} {vs ms ks vs' ms' ks' : List ℕ} → Room t vs ms ks → length vs' ≡ length vs → length ms' ≡ length ms → length ks' ≡ length ks → Room t vs' ms' ks'
room-still h a b c = record { values = omega (arith, h.values); masks = omega (arith, h.masks); keeps = omega (arith, h.keeps) }

pub ruleset laying-two = (rules, two-first, two-both, room-one, room-still)

-- `lay`
module _ {op mask size t : ℕ} {vs ms ks vs₁ ms₁ ks₁ : List ℕ} (h : Room t vs ms ks) (d : TwoLaid op mask size 0 t vs ms ks vs₁ ms₁ ks₁) where
  begun : Laying op mask size t vs ms ks vs ms ks 0
  begun = record { room = h; within = omega arith; cells = record { values = refl; masks = refl; keeps = refl } }

  pub lays-two : t ≤ 2 → Lain op mask size t vs ms ks vs₁ ms₁ ks₁
  lays-two e = lays_all (d.more begun) (omega arith)

  pub lays-four : t ≤ 4 → {vs₂ ms₂ ks₂ : List ℕ} → 2 < t → TwoLaid op mask size 2 t vs₁ ms₁ ks₁ vs₂ ms₂ ks₂ → Lain op mask size t vs ms ks vs₂ ms₂ ks₂
  lays-four e g k = let z : min t 2 ≡ 2 = omega arith in lays_all (k.more (rw z at (d.more begun))) (omega arith)

pub ruleset laying = (rules, lays-two, lays-four, room-still)

pub room : {t : ℕ} {vs ms ks : List ℕ} → t ≤ length vs → t ≤ length ms → t ≤ length ks → Room t vs ms ks
room hv hm hk = record { values = hv; masks = hm; keeps = hk }

-- a cell, and the opcode
pub cell_in : (k v i : ℕ) → i < k → v ≡ cell k v i
cell_in k v i h = simp (lt-ltb i k h)

pub cell_out : (k v i : ℕ) → k ≤ i → 0 ≡ cell k v i
cell_out k v i h = simp (le-ltb i k h)

pub opcode-stays : (mask t : ℕ) (xs : List ℕ) → mask ≡ 0 → 0 ≡ opcode_of mask t xs
opcode-stays mask t xs e = rw e

pub opcode-moves : (mask t : ℕ) (xs : List ℕ) → (mask ≡ 0 → ⊥) → get_or xs (t - 1) 0 ≡ opcode_of mask t xs
opcode-moves mask t xs h = simp (ne_eqb mask 0 h)

-- what is laid by a row's numbers
pub laid : {row : Row} {t : ℕ} {big : Bool} {n op : ℕ} {vs ms ks vs' ms' ks' : List ℕ}
    → n ≡ join big (take (min row.joins 4) vs) → op ≡ opcode_of row.mask t vs → Lain op row.mask row.size t vs ms ks vs' ms' ks'
    → Laid row t big n vs ms ks vs' ms' ks'
laid en eo l = record { number = en; lain = rw eo at l }

-- class by class
number_by : (big : Bool) (c : Class) (vs : List ℕ) → join big (take (min (row_of c).joins 4) vs) ≡ number_by_of big c vs
unfolding number_by_of
number_by big Addr19 vs = refl
number_by big Addr11 vs = refl
number_by big Addr24 vs = refl
number_by big Addr16 vs = refl
number_by big Byte vs = refl
number_by big Other vs = refl

values-by : (c : Class) (three : Bool) (vs : List ℕ) → tab.over (cell 1 (opcode_of (row_of c).mask (touched_of c three) vs)) (touched_of c three) vs ≡ values_by c three vs
unfolding values_by over fronted
values-by Addr19 three vs = refl
values-by Addr11 three vs = refl
values-by Addr24 three vs = refl
values-by Addr16 three vs = refl
values-by Byte three vs = refl
values-by Other true vs = refl
values-by Other false vs = refl

masks-by : (c : Class) (three : Bool) (ms : List ℕ) → tab.over (cell 1 (row_of c).mask) (touched_of c three) ms ≡ masks_by c three ms
unfolding masks_by over fronted
masks-by Addr19 three ms = refl
masks-by Addr11 three ms = refl
masks-by Addr24 three ms = refl
masks-by Addr16 three ms = refl
masks-by Byte three ms = refl
masks-by Other true ms = refl
masks-by Other false ms = refl

keeps-by : (c : Class) (three : Bool) (ks : List ℕ) → tab.over (cell (row_of c).size 1) (touched_of c three) ks ≡ keeps_by c three ks
unfolding keeps_by over
keeps-by Addr19 three ks = refl
keeps-by Addr11 three ks = refl
keeps-by Addr24 three ks = refl
keeps-by Addr16 three ks = refl
keeps-by Byte three ks = refl
keeps-by Other true ks = refl
keeps-by Other false ks = refl

pub touches : (c : Class) (three : Bool) {t : ℕ} → t ≡ touched_of c three → (1 ≤ t) × (t ≤ 4)
touches c three e = rw e (go c three)
  where
    go : (c : Class) (three : Bool) → (1 ≤ touched_of c three) × (touched_of c three ≤ 4)
    go Addr19 three = (lit≤ tt, lit≤ tt)
    go Addr11 three = (lit≤ tt, lit≤ tt)
    go Addr24 three = (lit≤ tt, lit≤ tt)
    go Addr16 three = (lit≤ tt, lit≤ tt)
    go Byte three = (lit≤ tt, lit≤ tt)
    go Other true = (lit≤ tt, lit≤ tt)
    go Other false = (lit≤ tt, lit≤ tt)

-- the step, where no part is too short
module _ (c : Class) (three big : Bool) (vs ms ks : List ℕ) {t : ℕ} (e : t ≡ touched_of c three) where
  module _ (hv : t ≤ length vs) (hm : t ≤ length ms) where
    module _ (hk : t ≤ length ks) where
      fits_all : fits c three vs ms ks ≡ true
      unfolding fits
      fits_all =
          simp (le-leb (touched_of c three) (length vs) (rw e at hv), le-leb (touched_of c three) (length ms) (rw e at hm), le-leb (touched_of c three) (length ks) (rw e at hk))

      pub steps : {row : Row} {n : ℕ} {vs' ms' ks' : List ℕ} → row ≡ row_of c → Laid row t big n vs ms ks vs' ms' ks' → Modified c three big (Some n) vs ms ks vs' ms' ks'
      steps f l = let q = rw (f, e) at l in record {
        number = rw fits_all (rw q.number (rw (number_by big c vs)));
        values = rw fits_all (q.lain.values ∙ values-by c three vs);
        masks = rw fits_all (q.lain.masks ∙ masks-by c three ms);
        keeps = rw fits_all (q.lain.keeps ∙ keeps-by c three ks);
      }

-- for callers: what a number says
pub record Stepped (c : Class) (three big : Bool) (n : ℕ) (vs ms ks vs' ms' ks' : List ℕ) : Type 0 where
  pub number : n ≡ number_by_of big c vs
  pub values : vs' ≡ values_by c three vs
  pub masks : ms' ≡ masks_by c three ms
  pub keeps : ks' ≡ keeps_by c three ks

module _ {c : Class} {three big : Bool} {vs ms ks vs' ms' ks' : List ℕ} where
  stepped_by : {n : ℕ} (f : Bool) → some n ≡ pick f (some (number_by_of big c vs)) none → vs' ≡ pick f (values_by c three vs) vs
      → ms' ≡ pick f (masks_by c three ms) ms → ks' ≡ pick f (keeps_by c three ks) ks → Stepped c three big n vs ms ks vs' ms' ks'
  stepped_by true en ev em ek = record { number = cc; values = ev; masks = em; keeps = ek }
  stepped_by false en ev em ek = let z : ◌≡◌ {A = ℕ} 0 1 = cc in let y : ⊥ = omega arith in absurd y

  pub stepped : {r : Answer ℕ} {n : ℕ} → Modified c three big r vs ms ks vs' ms' ks' → r ≡ Some n → Stepped c three big n vs ms ks vs' ms' ks'
  stepped m e = let q = rw e at m in stepped_by (fits c three vs ms ks) q.number q.values q.masks q.keeps

pub ruleset stepping = (rules, room, laid-at, cell_in, cell_out, opcode-stays, opcode-moves, laid, touches, steps)
