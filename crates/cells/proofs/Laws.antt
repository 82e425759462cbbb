-- What the proofs of the cells share: a part of a list written over, as a run of stores.
-- Assumes nothing.
use Prim.Native.Nat.{ℕ, zero, suc, ◌+◌, ◌-◌, ◌≤◌, ◌<◌, min}
use mathlib.Core.Path.{◌≡◌, refl, sym, ◌∙◌}
use mathlib.Core.Logic.{◌⊎◌, inl, inr}
use mathlib.Core.List.{List, [], ◌∷◌, ◌++◌}
use native.Mathlib.Nat.{add-zero, add-suc, suc-add}
use native.Mathlib.Numerals.{add-one}
use native.Mathlib.Omega.{arith}
use borrow.Rule.Slice.PartMut.{put_mid}
use borrow.Author.Rules.{rules}
use lib.ListN.{length, take, drop, replicate, get_or, set, length-set, length-replicate, length-take, length-drop, get_or-eq_default}
use lib.Seq.{sets, sets-eq, set_out, take-suc, take_all, take-take, take-nil, length-take-le}
use Rattle.std.proofs.lemmas.Bool.{cases_lt}
use Rattle.std.proofs.lemmas.List.{take-replicate}
use Rattle.std.proofs.lemmas.Slice.{put_mid-paste}
use Rattle.cells.specs.Room.{Room}

pub past_end : (l : List ℕ) (i : ℕ) → length l ≤ i → 0 ≡ get_or l i 0
past_end l i h = sym (get_or-eq_default l 0 h)

-- ------------------------------------------------------------------ a run of stores

pub sets-append : (l : List ℕ) (i : ℕ) (vs ws : List ℕ) → sets l i (vs ++ ws) ≡ sets (sets l i vs) (i + length vs) ws
sets-append l i [] ws = rw add-zero
sets-append l i (v ∷ vs) ws = rw (add-suc, ← suc-add i (length vs)) (sets-append _ (suc i) vs ws)

module _ {A : Type 0} where
  sets-out : (l : List A) (i : ℕ) (vs : List A) → length l ≤ i → sets l i vs ≡ l
  sets-out l i [] h = refl
  sets-out l i (v ∷ vs) h = rw (set_out l i v h) (sets-out l (suc i) vs (omega arith))

  -- what has no room is not stored
  sets-room : (l : List A) (i k : ℕ) (vs : List A) → length l ≤ i + k → sets l i (take k vs) ≡ sets l i vs
  sets-room l i k [] h = rw take-nil
  sets-room l i zero (v ∷ vs) h = sym (sets-out l i (v ∷ vs) (omega arith))
  sets-room l i (suc k) (v ∷ vs) h = sets-room (set l i v) (suc i) k vs (simp length-set (omega arith))

  -- a part of d that is now vs, which has its length
  over_part : (d ys vs : List A) (at m k : ℕ) → ys ≡ vs → m ≡ k → length vs ≡ k → at + k ≤ length d → put_mid at m d ys ≡ sets d at vs
  over_part d ys vs at m k e f g h =
      let p = put_mid-paste at m d ys vs k e (sym f) (sym g) in
      let a : take k vs ≡ vs = take_all k vs (omega (arith, g)) in
      let s : sets d at vs ≡ take at d ++ vs ++ drop (at + length vs) d = sets-eq vs d at (omega (arith, g, h)) in
      p ∙ (rw (a, s, g) refl)

  -- the first k of vs are as good as all of them
  same_stores : (d vs : List A) (at k : ℕ) → (k < length vs → length d ≤ at + k) → sets d at (take k vs) ≡ sets d at vs
  same_stores d vs at k h = by_cases (cases_lt k (length vs))
    where
      by_cases : (k < length vs) ⊎ (length vs ≤ k) → sets d at (take k vs) ≡ sets d at vs
      by_cases (inl l) = sets-room d at k vs (h l)
      by_cases (inr l) = rw (take_all k vs l) refl

-- ------------------------------------------------------------------ `copy`

-- as many as have room of the first n, and there are as many: they are as good as the first n
module _ {A : Type 0} (d s : List A) (at n : ℕ) {j k : ℕ} (p : Room (length d) at n j) (q : Room (length s) 0 j k) where
  copied : sets d at (take k s) ≡ sets d at (take n s)
  copied =
      let t : length (take n s) ≡ min n (length s) = length-take n s in
      rw (← take-take k n s (omega (arith, p.few, q.few))) (same_stores d (take n s) at k (λ h. grind (arith, p.few, p.most, q.few, q.most, h, t)))

  pub copy_some : (ys : List A) → 0 < k → ys ≡ take k s → put_mid at (at + k - at) d ys ≡ sets d at (take n s)
  copy_some ys h e =
      let t : length (take k s) ≡ k = length-take-le k s (omega (arith, q.inside)) in
      over_part d ys (take k s) at (at + k - at) k e (omega arith) t (omega (arith, p.inside, q.few, h)) ∙ copied

  pub copy_none : k ≤ 0 → d ≡ sets d at (take n s)
  copy_none h = let e : k ≡ 0 = omega arith in (rw e at copied)

-- ------------------------------------------------------------------ `copy_bytes`

-- a loop that stores the first k of vs from a place on: i are stored
pub record Storing (d vs : List ℕ) (at k : ℕ) (l : List ℕ) (i : ℕ) : Type 0 where
  pub within : i ≤ k
  pub sofar : l ≡ sets d at (take i vs)
  pub long : length l ≡ length d

pub store-start : (d vs : List ℕ) (at k : ℕ) → Storing d vs at k d 0
store-start d vs at k = record { within = omega arith; sofar = refl; long = refl }

one_more : (d vs : List ℕ) (at i : ℕ) → i < length vs → set (sets d at (take i vs)) (at + i) (get_or vs i 0) ≡ sets d at (take (i + 1) vs)
one_more d vs at i h =
    rw (add-one, take-suc vs i 0 h) (sym (sets-append d at (take i vs) (get_or vs i 0 ∷ []) ∙ rw (length-take-le i vs (omega arith))))

module _ (d s : List ℕ) (at n : ℕ) {j k : ℕ} (p : Room (length d) at n j) (q : Room (length s) 0 j k) where
  module _ {l : List ℕ} {i : ℕ} (w : Storing d s at k l i) where
    pub copy_read : i < k → i < length s
    copy_read h = omega (arith, q.inside)

    pub copy-write : i < k → at + i < length l
    copy-write h = omega (arith, p.inside, q.few, w.long)

    pub copy_more : i < k → Storing d s at k (set l (at + i) (get_or s i 0)) (i + 1)
    copy_more h = record {
      within = omega arith;
      sofar = rw w.sofar (one_more d s at i (omega (arith, q.inside)));
      long = simp length-set w.long;
    }

    pub copy-end : k ≤ i → l ≡ sets d at (take n s)
    copy-end h = let e : i ≡ k = omega (arith, w.within) in (rw e at w.sofar) ∙ copied d s at n p q

pub ruleset copying = (rules, store-start, copy_read, copy-write, copy_more, copy-end)

-- ------------------------------------------------------------------ `fill_bytes`

module _ {A : Type 0} (d : List A) (at n : ℕ) (v : A) {k : ℕ} (p : Room (length d) at n k) where
  filled : sets d at (replicate k v) ≡ sets d at (replicate n v)
  filled =
      rw (← take-replicate k n v p.few) (same_stores d (replicate n v) at k (λ h. p.most (rw length-replicate at h)))

  pub fill_some : (ys : List A) → 0 < k → ys ≡ replicate (length (take (at + k - at) (drop at d))) v → put_mid at (at + k - at) d ys ≡ sets d at (replicate n v)
  fill_some ys h e =
      let l : length (take (at + k - at) (drop at d)) ≡ k = rw (length-take, length-drop) (omega (arith, p.inside)) in
      over_part d ys (replicate k v) at (at + k - at) k (rw l at e) (omega arith) (length-replicate k v) (omega (arith, p.inside, h)) ∙ filled

  pub fill_none : k ≤ 0 → d ≡ sets d at (replicate n v)
  fill_none h = let e : k ≡ 0 = omega arith in (rw e at filled)
