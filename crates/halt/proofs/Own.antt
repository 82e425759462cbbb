-- The halt is the reading's own: where a line reader gave a reason and a place, it is those; where it read a line and left something, or the line
-- end is missing, the halt lies at or behind what it used.
-- Assumes nothing.
use Prim.Native.Nat.{ℕ, ◌+◌, ◌≤◌}
use mathlib.Core.Path.{◌≡◌, refl, ap}
use mathlib.Core.Bool.{Bool, true, false}
use mathlib.Core.List.{List}
use native.Mathlib.Omega.{arith}
use lib.ListN.{length, get_or}
use lib.Dec.{eqb}
use borrow.Author.Tests.{eqb-true, ne_eqb}
use Rattle.format.specs.Lists.{pick}
use Rattle.format.specs.Bytes.{is_blank}
use Rattle.format.specs.Got.{Got, Reader, is, isnt, many, optional, or_none, shifted, then, ◌>>◌}
use Rattle.format.specs.Number.{Name, blanks, number, past, space}
use Rattle.format.specs.Lines.{Line, width}
use Rattle.format.specs.Header.{Form}
use Rattle.format.specs.Entries.{A, Entry, addr, area, area_line, area_of, entry_line, field, flags, ignored_line, lead, size, spelled, symbol_line, titled}
use Rattle.format.specs.Pairs.{Content, Fragment, Pair, area_part, fragment, placed, placed_of, relocation_line, whole_content}
use Rattle.laws.proofs.Within.{past-within}
use Rattle.halt.specs.Halt.{area_due, entry_halt, fields_due, fragment_due, pair_halt, why}
use Rattle.halt.proofs.Spans.{Span, field-sound, lead-sound, number-sound, seq-sound, titled-sound}

-- an answer is one or the other
no-is : {B C : Type 0} {b : B} {q r p : ℕ} → is b q ≡ isnt r p → C
no-is h = let z : ◌≡◌ {A = ℕ} 0 1 = cc in let y : ⊥ = omega arith in absurd y

no-isnt : {B C : Type 0} {b : B} {q r p : ℕ} → isnt r p ≡ is b q → C
no-isnt h = let z : ◌≡◌ {A = ℕ} 0 1 = cc in let y : ⊥ = omega arith in absurd y

recast : {B C : Type 0} (x y r p : ℕ) → ◌≡◌ {A = Got B} (isnt x y) (isnt r p) → ◌≡◌ {A = Got C} (isnt x y) (isnt r p)
recast x y r p h = let a : x ≡ r = cc in let b : y ≡ p = cc in rw (a, b)

-- ------------------------------------------------------------------ A lines

module _ (f : Form) (s : List ℕ) where
  -- behind the flags: what the line's reader goes on with, and what is due
  abbrev rest_of : Name → ℕ → ℕ → ℕ → Got Entry
  rest_of n z g c = then (optional (field (spelled addr) f.radix) s c) (λ a next. then (blanks s next) (λ u end. is (area n z g a) end))

  abbrev due_of : ℕ → Got Unit
  due_of c = then (field (spelled addr) f.radix s c) (λ a next. blanks s next)

  -- the reader always goes on
  rest-is : (n : Name) (z g c r p : ℕ) → rest_of n z g c ≡ isnt r p → ⊥
  unfolding optional blanks
  rest-is n z g c r p h = go (field (spelled addr) f.radix s c) h
    where
      go : (m : Got ℕ) → then (or_none m c) (λ a next. then (blanks s next) (λ u end. is (area n z g a) end)) ≡ isnt r p → ⊥
      go (is v d) q = no-is q
      go (isnt x y) q = no-is q

  own-flags : (n : Name) (z r p : ℕ) (m : Got ℕ) → then m (λ g c. rest_of n z g c) ≡ isnt r p → then m (λ g c. due_of c) ≡ isnt r p
  own-flags n z r p (is g c) h = absurd (rest-is n z g c r p h)
  own-flags n z r p (isnt x y) h = recast {B = Entry} x y r p h

  own-size : (n : Name) (r p : ℕ) (m : Got ℕ) → then m (λ z b. then (field (spelled flags) f.radix s b) (λ g c. rest_of n z g c)) ≡ isnt r p
      → then m (λ z b. then (field (spelled flags) f.radix s b) (λ g c. due_of c)) ≡ isnt r p
  own-size n r p (is z b) h = own-flags n z r p (field (spelled flags) f.radix s b) h
  own-size n r p (isnt x y) h = recast {B = Entry} x y r p h

  own-title : (r p : ℕ) (m : Got Name) → then m (λ n a. then (field (spelled size) f.radix s a) (λ z b. then (field (spelled flags) f.radix s b) (λ g c. rest_of n z g c))) ≡ isnt r p
      → then m (λ n a. then (field (spelled size) f.radix s a) (λ z b. then (field (spelled flags) f.radix s b) (λ g c. due_of c))) ≡ isnt r p
  own-title r p (is n a) h = own-size n r p (field (spelled size) f.radix s a) h
  own-title r p (isnt x y) h = recast {B = Entry} x y r p h

  own-area : (r p : ℕ) → area_line f s 0 ≡ isnt r p → area_due f s 0 ≡ isnt r p
  unfolding area_line area_of area_due fields_due
  own-area r p h = own-title r p (titled (spelled A) s 0) h

  -- a line of group one that does not read
  pub the-halt-is-the-readers-own : (r p : ℕ) → entry_line f s 0 ≡ isnt r p → entry_halt f s ≡ record { reason = r; place = p }
  unfolding entry_halt entry_line
  the-halt-is-the-readers-own r p h = go (eqb (get_or s 0 0) 65) h
    where
      go : (t : Bool) → pick t (area_line f s 0) (pick (eqb (get_or s 0 0) 83) (symbol_line f s 0) (ignored_line s 0)) ≡ isnt r p
          → pick t (why (area_due f s 0)) (why (pick t (area_line f s 0) (pick (eqb (get_or s 0 0) 83) (symbol_line f s 0) (ignored_line s 0)))) ≡ record { reason = r; place = p }
      go true q = rw (own-area r p q)
      go false q = rw q

-- ------------------------------------------------------------------ a line of group one that reads and is not taken

module _ (f : Form) (s : List ℕ) where
  -- where the item due does not read, it does so at or behind the blanks
  addr-from : (c r p : ℕ) → c ≤ length s → field (spelled addr) f.radix s c ≡ isnt r p → past is_blank s c ≤ p
  unfolding field space
  addr-from c r p l h = go (eqb (past is_blank s c) c) refl h
    where
      rest : Reader ℕ
      rest = lead (spelled addr) >> number f.radix

      behind : Span s (past is_blank s c) (rest s (past is_blank s c))
      behind = seq-sound (lead (spelled addr)) (number f.radix) (lead-sound (spelled addr)) (number-sound f.radix) s (past is_blank s c) (past-within is_blank s c l)

      low : (g : Got ℕ) → Span s (past is_blank s c) g → g ≡ isnt r p → past is_blank s c ≤ p
      low (is v d) w k = no-is k
      low (isnt x y) w k = let b : y ≡ p = cc in omega (arith, w.from)

      go : (t : Bool) → eqb (past is_blank s c) c ≡ t → then (pick {A = Got (Unit {0})} t (isnt 4 c) (is tt (past is_blank s c))) (λ (u : Unit {0}) next. rest s next) ≡ isnt r p → past is_blank s c ≤ p
      go true e k = let b : c ≡ p = cc in omega (arith, eqb-true (past is_blank s c) c e)
      go false e k = low (rest s (past is_blank s c)) behind k

  used-addr : (n : Name) (z g c used : ℕ) (e : Entry) → c ≤ length s → rest_of f s n z g c ≡ is e used → used ≤ (why (due_of f s c)).place
  unfolding optional blanks
  used-addr n z g c used e l h = go (field (spelled addr) f.radix s c) refl h
    where
      go : (m : Got ℕ) → field (spelled addr) f.radix s c ≡ m → then (or_none m c) (λ a next. then (blanks s next) (λ u end. is (area n z g a) end)) ≡ is e used
          → used ≤ (why (then m (λ a next. blanks s next))).place
      go (is v d) k q = let b : past is_blank s d ≡ used = cc in omega arith
      go (isnt x y) k q = let b : past is_blank s c ≡ used = cc in omega (arith, addr-from c x y l k)

  used-flags : (n : Name) (z b used : ℕ) (e : Entry) (m : Got ℕ) → Span s b m → then m (λ g c. rest_of f s n z g c) ≡ is e used → used ≤ (why (then m (λ g c. due_of f s c))).place
  used-flags n z b used e (is g c) w h = used-addr n z g c used e w.1 h
  used-flags n z b used e (isnt x y) w h = no-isnt h

  used-size : (n : Name) (a used : ℕ) (e : Entry) (m : Got ℕ) → Span s a m → then m (λ z b. then (field (spelled flags) f.radix s b) (λ g c. rest_of f s n z g c)) ≡ is e used
      → used ≤ (why (then m (λ z b. then (field (spelled flags) f.radix s b) (λ g c. due_of f s c)))).place
  used-size n a used e (is z b) w h = used-flags n z b used e (field (spelled flags) f.radix s b) (field-sound (spelled flags) f.radix s b w.1) h
  used-size n a used e (isnt x y) w h = no-isnt h

  used-title : (used : ℕ) (e : Entry) (m : Got Name) → Span s 0 m
      → then m (λ n a. then (field (spelled size) f.radix s a) (λ z b. then (field (spelled flags) f.radix s b) (λ g c. rest_of f s n z g c))) ≡ is e used
      → used ≤ (why (then m (λ n a. then (field (spelled size) f.radix s a) (λ z b. then (field (spelled flags) f.radix s b) (λ g c. due_of f s c))))).place
  used-title used e (is n a) w h = used-size n a used e (field (spelled size) f.radix s a) (field-sound (spelled size) f.radix s a w.1) h
  used-title used e (isnt x y) w h = no-isnt h

  used-area : (used : ℕ) (e : Entry) → area_line f s 0 ≡ is e used → used ≤ (why (area_due f s 0)).place
  unfolding area_line area_of area_due fields_due
  used-area used e h = used-title used e (titled (spelled A) s 0) (titled-sound (spelled A) s 0 (omega arith)) h

  -- the halt lies at or behind what the reader used
  pub the-halt-is-behind-what-was-used : (used : ℕ) (e : Entry) → entry_line f s 0 ≡ is e used → used ≤ (entry_halt f s).place
  unfolding entry_halt entry_line
  the-halt-is-behind-what-was-used used e h = go (eqb (get_or s 0 0) 65) h
    where
      go : (t : Bool) → pick t (area_line f s 0) (pick (eqb (get_or s 0 0) 83) (symbol_line f s 0) (ignored_line s 0)) ≡ is e used
          → used ≤ (pick t (why (area_due f s 0)) (why (pick t (area_line f s 0) (pick (eqb (get_or s 0 0) 83) (symbol_line f s 0) (ignored_line s 0))))).place
      go true q = used-area used e q
      go false q = let k : used ≤ (why (is e used)).place = omega arith in rw q k

-- ------------------------------------------------------------------ pairs

module _ (f : Form) (t r : Line) where
  own-second : (x p : ℕ) (c : Content) → shifted (width t) (placed c) (relocation_line f r.bytes 0) ≡ isnt x p
      → shifted (width t) (λ (y : Fragment). y) (fragment_due f r.bytes 0) ≡ isnt x p
  unfolding relocation_line fragment_due
  own-second x p c h = go (area_part f r.bytes 0) h
    where
      item : Reader Fragment
      item = fragment f.radix f.big

      go : (g : Got ℕ) → shifted (width t) (placed c) (then g (λ a next. Rattle.format.specs.Pairs.relocation_from f r.bytes a next)) ≡ isnt x p
          → shifted (width t) (λ (y : Fragment). y) (then g (λ a next. fragment f.radix f.big r.bytes (many (length r.bytes) (fragment f.radix f.big) r.bytes next).end)) ≡ isnt x p
      go (is a q) k = no-is k
      go (isnt y z) k = recast {B = Pair} y (width t + z) x p k

  -- two lines that do not read by the relocated form, the first with its line end
  pub the-halt-is-the-pairs-own : (x p : ℕ) → 1 ≤ t.ends → placed_of f (width t) t.bytes r.bytes ≡ isnt x p → pair_halt f t r ≡ record { reason = x; place = p }
  unfolding placed_of pair_halt
  the-halt-is-the-pairs-own x p l h = go (whole_content f t.bytes) h
    where
      go : (m : Got Content) → then m (λ c used. shifted (width t) (placed c) (relocation_line f r.bytes 0)) ≡ isnt x p
          → why (then m (λ c used. pick (eqb t.ends 0) (isnt 4 used) (shifted (width t) (λ (y : Fragment). y) (fragment_due f r.bytes 0)))) ≡ record { reason = x; place = p }
      go (is c used) k = let ne : t.ends ≡ 0 → ⊥ = λ q. omega arith in rw (ne_eqb t.ends 0 ne, own-second x p c k)
      go (isnt y z) k = ap (λ (g : Got Fragment). why g) (recast {B = Pair} y z x p k)
