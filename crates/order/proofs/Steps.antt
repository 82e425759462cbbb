-- From any state: two pairs that are not refused, with no common position, and one pair twice.
-- Assumes nothing.
use Prim.Native.Nat.{◌+◌, ◌≤◌}
use mathlib.Core.Path.{◌≡◌, sym, ap, ◌∙◌}
use mathlib.Core.List.{append_assoc}
use native.Mathlib.Omega.{arith}
use lib.ListN.{length}
use Rattle.format.specs.Header.{Form}
use Rattle.format.specs.Pairs.{Pair}
use Rattle.format.specs.Outcome.{fine, and_then}
use Rattle.format.specs.Records.{Taken}
use Rattle.format.specs.Tables.{Tables}
use Rattle.format.specs.Placing.{State, place_pair}
use Rattle.laws.proofs.Outcomes.{follow}
use Rattle.order.specs.Writes.{Cell, writes, rows, after, wrote, Unrefused}
use Rattle.order.specs.Order.{Apart, SameImages, EitherWay}
use Rattle.order.proofs.Cells.{lay-twice, lay-either}
use Rattle.order.proofs.Placed.{after-fixups, puts-pair}
use Rattle.order.proofs.Pair.{ascends-pair, an-unrefused-pair-is-placed}
use Rattle.order.proofs.Order.{same-images}

module _ (fm : Form) (t : Tables) (a b : Taken Pair) (s : State) where
  both : Unrefused fm t a → Unrefused fm t b → length s.fixups + (length (rows fm t a) + length (rows fm t b)) ≤ 1024
      → and_then (place_pair fm t s a) (λ x. place_pair fm t x b) ≡ fine (after (writes fm t b) (rows fm t b) (after (writes fm t a) (rows fm t a) s))
  both m n l =
      follow (place_pair fm t s a) (λ x. place_pair fm t x b) (an-unrefused-pair-is-placed fm t a s m (omega arith))
      (an-unrefused-pair-is-placed fm t b (after (writes fm t a) (rows fm t a) s) n (omega (arith, after-fixups (writes fm t a) (rows fm t a) s)))

-- two pairs that are not refused, from any state that has room for the rows of both
pub two-pairs-in-either-order : (fm : Form) (t : Tables) (a b : Taken Pair) (s : State) → Unrefused fm t a → Unrefused fm t b → Apart fm t a b
    → length s.fixups + (length (rows fm t a) + length (rows fm t b)) ≤ 1024 → EitherWay fm t a b s
unfolding after wrote
two-pairs-in-either-order fm t a b s m n d l = record {
  one = after (writes fm t b) (rows fm t b) (after (writes fm t a) (rows fm t a) s);
  other = after (writes fm t a) (rows fm t a) (after (writes fm t b) (rows fm t b) s);
  one-is = both fm t a b s m n l;
  other-is = both fm t b a s n m (omega arith);
  same = same-images t.areas _ _
      (lay-either (λ (c : Cell). c.value) 0 0 (writes fm t a) (writes fm t b) (ascends-pair fm t a) (ascends-pair fm t b) d.apart s.values)
      (lay-either (λ (c : Cell). c.mask) 0 0 (writes fm t a) (writes fm t b) (ascends-pair fm t a) (ascends-pair fm t b) d.apart s.masks);
  one-fixups = append_assoc s.fixups (rows fm t a) (rows fm t b);
  other-fixups = append_assoc s.fixups (rows fm t b) (rows fm t a);
}

-- a pair placed twice running leaves the images that it left the first time
pub again-changes-no-image : (fm : Form) (t : Tables) (a : Taken Pair) (s u v : State) → place_pair fm t s a ≡ fine u → place_pair fm t u a ≡ fine v → SameImages t.areas u v
unfolding after
again-changes-no-image fm t a s u v g h =
    let x = (puts-pair fm t a s u g).is in
    let y = (puts-pair fm t a u v h).is ∙ ap (after (writes fm t a) (rows fm t a)) x in
    same-images t.areas u v
    (ap (λ (z : State). z.values) x ∙ (sym (lay-twice (λ (c : Cell). c.value) 0 (writes fm t a) (ascends-pair fm t a) s.values) ∙ sym (ap (λ (z : State). z.values) y)))
    (ap (λ (z : State). z.masks) x ∙ (sym (lay-twice (λ (c : Cell). c.mask) 0 (writes fm t a) (ascends-pair fm t a) s.masks) ∙ sym (ap (λ (z : State). z.masks) y)))
