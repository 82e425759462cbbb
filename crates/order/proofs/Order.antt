-- Two neighbouring pairs that write no common position, in either order; and one pair twice running.
-- Assumes nothing.
use Prim.Native.Nat.{ℕ, ◌+◌, ◌≤◌}
use mathlib.Core.Path.{◌≡◌, refl, sym, ap, ◌∙◌}
use mathlib.Core.List.{List, [], ◌∷◌, ◌++◌, append_assoc}
use native.Mathlib.Omega.{arith}
use lib.ListN.{length, length-append}
use Rattle.format.specs.Header.{Form}
use Rattle.format.specs.Pairs.{Pair}
use Rattle.format.specs.Outcome.{fine, fold}
use Rattle.format.specs.Records.{Taken}
use Rattle.format.specs.Tables.{Tables, Area}
use Rattle.format.specs.Fixups.{Fixup}
use Rattle.format.specs.Placing.{State, place_pair, placing}
use Rattle.laws.proofs.Outcomes.{chain, fold-prefix}
use Rattle.laws.proofs.Placing.{all_rows, placing-rows}
use Rattle.laws.proofs.Room.{sized-placing}
use Rattle.order.specs.Writes.{Cell, writes, rows, lay, after, wrote}
use Rattle.format.specs.Known.{known_bits}
use Rattle.order.specs.Order.{Apart, SameImages, Exchanged, Once, Twice, Reordered, as_is, then-exchange, Sorted}
use Rattle.order.proofs.Cells.{lay-append, lay-twice, lay-either}
use Rattle.order.proofs.Placed.{puts-pair}
use Rattle.order.proofs.Pair.{ascends-pair}
use Rattle.order.proofs.Places.{placing-elsewhere}
use Rattle.order.proofs.Lists.{all_writes, puts-all, goes-cons, fold-behind}

pub same-images : (areas : List Area) (s u : State) → s.values ≡ u.values → s.masks ≡ u.masks → SameImages areas s u
same-images areas s u v m = record { values = v; masks = m; known = λ i. ap (λ (ms : List ℕ). known_bits areas i ms) m }

-- ------------------------------------------------------------------ cells in either order, and twice

module _ (f : Cell → ℕ) (fm : Form) (t : Tables) (a b : Taken Pair) (cs : List Cell) (xs : List ℕ) where
  three : (u v : List Cell) → lay f (u ++ (v ++ cs)) xs ≡ lay f cs (lay f v (lay f u xs))
  three u v = lay-append f u (v ++ cs) xs ∙ lay-append f v cs (lay f u xs)

  lay-exchanged : Apart fm t a b → lay f (writes fm t a ++ (writes fm t b ++ cs)) xs ≡ lay f (writes fm t b ++ (writes fm t a ++ cs)) xs
  unfolding wrote
  lay-exchanged d =
      three (writes fm t a) (writes fm t b)
      ∙ (ap (lay f cs) (lay-either f 0 0 (writes fm t a) (writes fm t b) (ascends-pair fm t a) (ascends-pair fm t b) d.apart xs) ∙ sym (three (writes fm t b) (writes fm t a)))

  lay-doubled : lay f (writes fm t a ++ (writes fm t a ++ cs)) xs ≡ lay f (writes fm t a ++ cs) xs
  lay-doubled = three (writes fm t a) (writes fm t a) ∙ (ap (lay f cs) (lay-twice f 0 (writes fm t a) (ascends-pair fm t a) xs) ∙ sym (lay-append f (writes fm t a) cs xs))

-- ------------------------------------------------------------------ the pairs before

-- the state that they leave
record Middle (fm : Form) (t : Tables) (before rest : List (Taken Pair)) (s : State) : Type 0 where
  middle : State
  first : placing fm t before ≡ fine middle
  second : fold (place_pair fm t) middle rest ≡ fine s

stopped : (fm : Form) (t : Tables) (before rest : List (Taken Pair)) (s : State) → placing fm t (before ++ rest) ≡ fine s → Middle fm t before rest s
unfolding placing
stopped fm t before rest s h = let k = fold-prefix (place_pair fm t) before rest _ s h in record { middle = k.value; first = k.first; second = k.second }

resumed : (fm : Form) (t : Tables) (before rest : List (Taken Pair)) (m s : State) → placing fm t before ≡ fine m → fold (place_pair fm t) m rest ≡ fine s → placing fm t (before ++ rest) ≡ fine s
unfolding placing
resumed fm t before rest m s h g = fold-behind (place_pair fm t) before rest _ m (fine s) h g

rows_append : (fm : Form) (t : Tables) (ps qs : List (Taken Pair)) → all_rows fm t (ps ++ qs) ≡ all_rows fm t ps ++ all_rows fm t qs
unfolding all_rows rows
rows_append fm t [] qs = refl
rows_append fm t (p ∷ ps) qs = ap (λ (z : List Fixup). rows fm t p ++ z) (rows_append fm t ps qs) ∙ sym (append_assoc (rows fm t p) (all_rows fm t ps) (all_rows fm t qs))

-- ------------------------------------------------------------------ the theorems

module _ (fm : Form) (t : Tables) (before behind : List (Taken Pair)) (a b : Taken Pair) (s : State) where
  pub neighbours-in-either-order : Apart fm t a b → placing fm t (before ++ a ∷ b ∷ behind) ≡ fine s → Exchanged fm t before behind a b s
  unfolding fold all_writes all_rows rows after
  neighbours-in-either-order d h =
      let k = stopped fm t before (a ∷ b ∷ behind) s h in
      let m = k.middle in
      let one = chain (place_pair fm t m a) _ s k.second in
      let two = chain (place_pair fm t one.value b) _ s one.second in
      let x = puts-pair fm t a m one.value one.first in
      let y = puts-pair fm t b one.value two.value two.first in
      let z = puts-all fm t behind two.value s two.second in
      let all = puts-all fm t (a ∷ b ∷ behind) m s k.second in
      let few : length m.fixups ≤ 1024 = (sized-placing fm t before m k.first).fixups in
      let room : length m.fixups + (length (rows fm t a) + (length (rows fm t b) + length (all_rows fm t behind))) ≤ 1024 = simp length-append at (all.few few) in
      let g = goes-cons fm t b (a ∷ behind) _ _ y.on-all (goes-cons fm t a behind (all_writes fm t behind) (all_rows fm t behind) x.on-all z.on-all) in
      let other : State = after (writes fm t b ++ (writes fm t a ++ all_writes fm t behind)) (rows fm t b ++ (rows fm t a ++ all_rows fm t behind)) m in
      let accepted : placing fm t (before ++ b ∷ a ∷ behind) ≡ fine other = resumed fm t before (b ∷ a ∷ behind) m other k.first (g.goes m (simp length-append (omega arith))) in
      record {
        other = other;
        accepted = λ ps e. placing-elsewhere fm t (before ++ b ∷ a ∷ behind) ps other e accepted;
        same = same-images t.areas s other
            (ap (λ (v : State). v.values) all.is ∙ lay-exchanged (λ (c : Cell). c.value) fm t a b (all_writes fm t behind) m.values d)
            (ap (λ (v : State). v.masks) all.is ∙ lay-exchanged (λ (c : Cell). c.mask) fm t a b (all_writes fm t behind) m.masks d);
        fixups = placing-rows fm t (before ++ a ∷ b ∷ behind) s h ∙ rows_append fm t before (a ∷ b ∷ behind);
        other-fixups = placing-rows fm t (before ++ b ∷ a ∷ behind) other accepted ∙ rows_append fm t before (b ∷ a ∷ behind);
      }

module _ (fm : Form) (t : Tables) (before behind : List (Taken Pair)) (a : Taken Pair) (s : State) where
  -- placed twice running, it may as well be placed once
  pub twice-is-as-once : placing fm t (before ++ a ∷ a ∷ behind) ≡ fine s → Once fm t before behind a s
  unfolding fold all_writes all_rows rows after
  twice-is-as-once h =
      let k = stopped fm t before (a ∷ a ∷ behind) s h in
      let m = k.middle in
      let one = chain (place_pair fm t m a) _ s k.second in
      let two = chain (place_pair fm t one.value a) _ s one.second in
      let x = puts-pair fm t a m one.value one.first in
      let z = puts-all fm t behind two.value s two.second in
      let all = puts-all fm t (a ∷ a ∷ behind) m s k.second in
      let few : length m.fixups ≤ 1024 = (sized-placing fm t before m k.first).fixups in
      let room : length m.fixups + (length (rows fm t a) + (length (rows fm t a) + length (all_rows fm t behind))) ≤ 1024 = simp length-append at (all.few few) in
      let g = goes-cons fm t a behind (all_writes fm t behind) (all_rows fm t behind) x.on-all z.on-all in
      let single : State = after (writes fm t a ++ all_writes fm t behind) (rows fm t a ++ all_rows fm t behind) m in
      let accepted : placing fm t (before ++ a ∷ behind) ≡ fine single = resumed fm t before (a ∷ behind) m single k.first (g.goes m (simp length-append (omega arith))) in
      record {
        single = single;
        accepted = λ ps e. placing-elsewhere fm t (before ++ a ∷ behind) ps single e accepted;
        same = same-images t.areas s single
            (ap (λ (v : State). v.values) all.is ∙ lay-doubled (λ (c : Cell). c.value) fm t a a (all_writes fm t behind) m.values)
            (ap (λ (v : State). v.masks) all.is ∙ lay-doubled (λ (c : Cell). c.mask) fm t a a (all_writes fm t behind) m.masks);
        fixups = placing-rows fm t (before ++ a ∷ a ∷ behind) s h ∙ rows_append fm t before (a ∷ a ∷ behind);
        single-fixups = placing-rows fm t (before ++ a ∷ behind) single accepted ∙ rows_append fm t before (a ∷ behind);
      }

  -- placed once, it may as well be placed twice running, if its rows have room once more
  pub once-is-as-twice : placing fm t (before ++ a ∷ behind) ≡ fine s → length s.fixups + length (rows fm t a) ≤ 1024 → Twice fm t before behind a s
  unfolding fold all_writes all_rows rows after
  once-is-as-twice h more =
      let k = stopped fm t before (a ∷ behind) s h in
      let m = k.middle in
      let one = chain (place_pair fm t m a) _ s k.second in
      let x = puts-pair fm t a m one.value one.first in
      let z = puts-all fm t behind one.value s one.second in
      let all = puts-all fm t (a ∷ behind) m s k.second in
      let count : length s.fixups ≡ length m.fixups + (length (rows fm t a) + length (all_rows fm t behind)) =
      ap (λ (v : State). length v.fixups) all.is ∙ simp length-append in
      let g = goes-cons fm t a (a ∷ behind) _ _ x.on-all (goes-cons fm t a behind (all_writes fm t behind) (all_rows fm t behind) x.on-all z.on-all) in
      let double : State = after (writes fm t a ++ (writes fm t a ++ all_writes fm t behind)) (rows fm t a ++ (rows fm t a ++ all_rows fm t behind)) m in
      record {
        double = double;
        accepted = λ ps e. placing-elsewhere fm t (before ++ a ∷ a ∷ behind) ps double e (resumed fm t before (a ∷ a ∷ behind) m double k.first (g.goes m (simp length-append (omega arith))));
        same = same-images t.areas s double
            (ap (λ (v : State). v.values) all.is ∙ sym (lay-doubled (λ (c : Cell). c.value) fm t a a (all_writes fm t behind) m.values))
            (ap (λ (v : State). v.masks) all.is ∙ sym (lay-doubled (λ (c : Cell). c.mask) fm t a a (all_writes fm t behind) m.masks));
      }

-- ------------------------------------------------------------------ any number of exchanges

fixups-as-many : (fm : Form) (t : Tables) (before behind : List (Taken Pair)) (a b : Taken Pair) (s : State) (x : Exchanged fm t before behind a b s) → length s.fixups ≡ length x.other.fixups
fixups-as-many fm t before behind a b s x =
    ap length x.fixups ∙ (simp length-append (omega arith) ∙ sym (ap length x.other-fixups))

pub reordered-pairs-leave-the-same-images : (fm : Form) (t : Tables) {ps qs : List (Taken Pair)} (s : State) → Reordered fm t ps qs → placing fm t ps ≡ fine s → Sorted fm t qs s
reordered-pairs-leave-the-same-images fm t s as_is h = record { other = s; accepted = h; same = same-images t.areas s s refl refl; fixups = placing-rows fm t _ s h; as_many = refl }
reordered-pairs-leave-the-same-images fm t s (then-exchange before behind a b r d) h =
    let k = reordered-pairs-leave-the-same-images fm t s r h in
    let x = neighbours-in-either-order fm t before behind a b k.other d k.accepted in
    record {
      other = x.other;
      accepted = x.accepted (before ++ b ∷ a ∷ behind) refl;
      same = same-images t.areas s x.other (k.same.values ∙ x.same.values) (k.same.masks ∙ x.same.masks);
      fixups = placing-rows fm t (before ++ b ∷ a ∷ behind) x.other (x.accepted (before ++ b ∷ a ∷ behind) refl);
      as_many = k.as_many ∙ fixups-as-many fm t before behind a b k.other x;
    }
