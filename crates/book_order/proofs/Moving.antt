-- Laws for putting a number in at a place: those behind it move up by one.
-- Assumes nothing.
use Prim.Native.Nat.{ℕ, suc, ◌+◌, ◌-◌, ◌<◌, ◌≤◌}
use mathlib.Core.Path.{◌≡◌, refl, sym, ap, ◌∙◌}
use mathlib.Core.List.{List, [], ◌∷◌}
use native.Mathlib.Omega.{arith}
use lib.ListN.{length, length-set, length-drop, take, drop, get_or, set}
use lib.Seq.{sets, take-suc, length-take-le, get_or-set_other, get_or-drop}
use borrow.Author.Rules.{rules}
use Rattle.cells.proofs.Laws.{sets-append}

sets-past : (l : List ℕ) (i : ℕ) (vs : List ℕ) (j : ℕ) → i + length vs ≤ j → get_or (sets l i vs) j 0 ≡ get_or l j 0
sets-past l i [] j h = refl
sets-past l i (v ∷ vs) j h = sets-past (set l i v) (suc i) vs j (omega arith) ∙ get_or-set_other l i j v 0 (omega arith)

sets_more : (l vs : List ℕ) (at i : ℕ) → i < length vs → set (sets l at (take i vs)) (at + i) (get_or vs i 0) ≡ sets l at (take (suc i) vs)
sets_more l vs at i h = rw (take-suc vs i 0 h) (sym (sets-append l at (take i vs) (get_or vs i 0 ∷ []) ∙ rw (length-take-le i vs (omega arith))))

-- the numbers from p up to j stand one further on, and the j-th is carried
pub record Moving (old : List ℕ) (p k v : ℕ) (new : List ℕ) (carry j : ℕ) : Type 0 where
  pub from : p ≤ j
  pub within : j ≤ k
  pub room : k < length old
  pub long : length new ≡ length old
  pub sofar : new ≡ sets old p (take (j - p) (v ∷ drop p old))
  pub carried : carry ≡ get_or (v ∷ drop p old) (j - p) 0

pub move_start : (old : List ℕ) (p k v : ℕ) → p ≤ k → k < length old → Moving old p k v old v p
move_start old p k v h l =
    let z : p - p ≡ 0 = omega arith in
    record { from = omega arith; within = h; room = l; long = refl; sofar = rw z; carried = rw z }

module _ {old : List ℕ} {p k v : ℕ} {new : List ℕ} {carry j : ℕ} (w : Moving old p k v new carry j) where
  stored : set new j carry ≡ sets old p (take (suc (j - p)) (v ∷ drop p old))
  stored =
      let a = w.from in
      let b = w.within in
      let c = w.room in
      let n = length-drop p old in
      let z : p + (j - p) ≡ j = omega arith in
      let s = sets_more old (v ∷ drop p old) p (j - p) (omega arith) in
      rw (w.sofar, w.carried) (rw z at s)

  pub move-more : {t : ℕ} {left : List ℕ} → j < k → t ≡ get_or new j 0 → left ≡ set new j carry → Moving old p k v left t (j + 1)
  move-more {t} {left} h e f =
      let a = w.from in
      let c = w.room in
      let n = length-drop p old in
      let z : p + (j - p) ≡ j = omega arith in
      let y : j + 1 - p ≡ suc (j - p) = omega arith in
      let m : length (take (j - p) (v ∷ drop p old)) ≡ j - p = length-take-le (j - p) (v ∷ drop p old) (omega arith) in
      let u : get_or new j 0 ≡ get_or old j 0 = rw w.sofar (sets-past old p (take (j - p) (v ∷ drop p old)) j (omega arith)) in
      record {
        from = omega arith;
        within = omega arith;
        room = c;
        long = ap length f ∙ (length-set new j carry ∙ w.long);
        sofar = f ∙ (stored ∙ rw y);
        carried = e ∙ (u ∙ rw y (sym (get_or-drop p old (j - p) 0 ∙ rw z)));
      }

  pub move-end : {left : List ℕ} → k ≤ j → left ≡ set new k carry → left ≡ sets old p (v ∷ take (k - p) (drop p old))
  move-end {left} h f =
      let b = w.within in
      let z : j ≡ k = omega arith in
      let g : left ≡ set new j carry = rw z f in
      g ∙ (stored ∙ rw z)

pub ruleset moves = (rules, move_start, move-more, move-end)
