-- Blanks, names and words in a line cut short.
-- Assumes nothing.
use Prim.Native.Nat.{ℕ, suc, zero, ◌+◌, ◌-◌, ◌≤◌, ◌<◌}
use mathlib.Core.Path.{◌≡◌, refl, ap, ◌∙◌}
use mathlib.Core.Bool.{Bool, true, false}
use mathlib.Core.List.{List, [], ◌∷◌}
use mathlib.Core.Logic.{◌⊎◌, inl, inr}
use native.Mathlib.Omega.{arith}
use lib.ListN.{length, drop, take, length-drop}
use lib.Seq.{drop-length, length-take-le}
use lib.Dec.{eqb, leb}
use borrow.Author.Tests.{eq-eqb, leb-true, leb-false}
use Rattle.format.specs.Lists.{pick, run, starts}
use Rattle.format.specs.Bytes.{is_blank, is_name_byte}
use Rattle.format.specs.Got.{is, isnt, ◌>>=◌, ◌>>◌}
use Rattle.format.specs.Number.{behind, blanks, name, past, space, word}
use Rattle.format.specs.Entries.{lead, titled}
use Rattle.cut.proofs.LineCut.{drop_of_take, run_take}
use Rattle.cut_reason.proofs.Shorter.{AtEnd, CutOf, Ends, Cuts, never, seq-ends, seq-cuts}

-- ------------------------------------------------------------------ runs

run_short : (t : ℕ → Bool) (xs : List ℕ) (m : ℕ) → m ≤ length (run t xs) → run t (take m xs) ≡ take m (run t xs)
unfolding run
run_short t xs zero h = refl
run_short t [] (suc m) h = refl
run_short t (x ∷ xs) (suc m) h = go (t x) h (run_short t xs m)
  where
    go : (b : Bool) → suc m ≤ length (pick b (x ∷ run t xs) []) → (m ≤ length (run t xs) → run t (take m xs) ≡ take m (run t xs))
        → pick b (x ∷ run t (take m xs)) [] ≡ take (suc m) (pick b (x ∷ run t xs) [])
    go true h f = ap (λ (l : List ℕ). x ∷ l) (f (omega arith))
    go false h f = refl

run_end : (t : ℕ → Bool) (s : List ℕ) → run t (drop (length s) s) ≡ []
unfolding run
run_end t s = rw (drop-length s)

pub past_end : (t : ℕ → Bool) (s : List ℕ) → past t s (length s) ≡ length s
unfolding past
past_end t s = rw (run_end t s) (omega arith)

-- the run of a cut line: the same, or what the cut leaves of it
pub record Run (t : ℕ → Bool) (s : List ℕ) (at k : ℕ) : Type 0 where
  pub how : ((run t (drop at (take k s)) ≡ run t (drop at s)) × (past t (take k s) at ≡ past t s at) × (past t s at ≤ k))
      ⊎ ((run t (drop at (take k s)) ≡ take (k - at) (run t (drop at s))) × (past t (take k s) at ≡ k) × (k < past t s at))

pub run-cut : (t : ℕ → Bool) (s : List ℕ) (at k : ℕ) → at ≤ k → k ≤ length s → Run t s at k
unfolding past
run-cut t s at k l h = go (leb (past t s at) k) refl
  where
    d : drop at (take k s) ≡ take (k - at) (drop at s)
    d = drop_of_take at k s l

    go : (b : Bool) → leb (past t s at) k ≡ b → Run t s at k
    go true e =
        let w : at + length (run t (drop at s)) ≤ k = leb-true (past t s at) k e in
        let r : run t (drop at (take k s)) ≡ run t (drop at s) = ap (run t) d ∙ run_take t (drop at s) (k - at) (omega arith) in
        record { how = inl (r, ap (λ (x : List ℕ). at + length x) r, w) }
    go false e =
        let w : k < at + length (run t (drop at s)) = leb-false (past t s at) k e in
        let r : run t (drop at (take k s)) ≡ take (k - at) (run t (drop at s)) = ap (run t) d ∙ run_short t (drop at s) (k - at) (omega arith) in
        let n : length (take (k - at) (run t (drop at s))) ≡ k - at = length-take-le (k - at) (run t (drop at s)) (omega arith) in
        let q : at + length (run t (drop at (take k s))) ≡ k = rw r (omega arith) in
        record { how = inr (r, q, w) }

-- what up_to answers of a cut line
up-cut : {A : Type 0} (k at n q : ℕ) (a c : A) (t : Bool) → ((c ≡ a) × (n ≡ q) × (q ≤ k)) ⊎ (n ≡ k) → CutOf k a q (pick t (isnt 4 at) (is c n))
up-cut k at n q a c true h = inr refl
up-cut k at n q a c false h = h

up-end : {A : Type 0} (n k : ℕ) (a : A) → n ≡ k → AtEnd k (pick (eqb n k) (isnt 4 k) (is a n))
up-end n k a e = go (eqb n k)
  where
    go : (t : Bool) → AtEnd k (pick t (isnt 4 k) (is a n))
    go true = inr refl
    go false = e

was-up : {A : Type 0} (t : Bool) (at n q : ℕ) (a c : A) → pick t (isnt 4 at) (is c n) ≡ is a q → (c ≡ a) × (n ≡ q)
was-up true at n q a c h = never h
was-up false at n q a c h = (cc, cc)

pub space-ends : Ends space
unfolding space
space-ends s = up-end (past is_blank s (length s)) (length s) tt (past_end is_blank s)

pub space-cuts : Cuts space
unfolding space
space-cuts s at k a q l h e = go (run-cut is_blank s at k l h).how
  where
    w : (tt ≡ a) × (past is_blank s at ≡ q)
    w = was-up (eqb (past is_blank s at) at) at (past is_blank s at) q a tt e

    go : ((run is_blank (drop at (take k s)) ≡ run is_blank (drop at s)) × (past is_blank (take k s) at ≡ past is_blank s at) × (past is_blank s at ≤ k))
        ⊎ ((run is_blank (drop at (take k s)) ≡ take (k - at) (run is_blank (drop at s))) × (past is_blank (take k s) at ≡ k) × (k < past is_blank s at))
        → CutOf k a q (pick (eqb (past is_blank (take k s) at) at) (isnt 4 at) (is tt (past is_blank (take k s) at)))
    go (inl (x, y, z)) = up-cut k at (past is_blank (take k s) at) q a tt (eqb (past is_blank (take k s) at) at) (inl (w.0, y ∙ w.1, omega (arith, w.1)))
    go (inr (x, y, z)) = up-cut k at (past is_blank (take k s) at) q a tt (eqb (past is_blank (take k s) at) at) (inr y)

pub blanks-ends : Ends blanks
unfolding blanks
blanks-ends s = past_end is_blank s

pub blanks-cuts : Cuts blanks
unfolding blanks
blanks-cuts s at k a q l h e = go (run-cut is_blank s at k l h).how
  where
    go : ((run is_blank (drop at (take k s)) ≡ run is_blank (drop at s)) × (past is_blank (take k s) at ≡ past is_blank s at) × (past is_blank s at ≤ k))
        ⊎ ((run is_blank (drop at (take k s)) ≡ take (k - at) (run is_blank (drop at s))) × (past is_blank (take k s) at ≡ k) × (k < past is_blank s at))
        → CutOf k a q (is tt (past is_blank (take k s) at))
    go (inl (x, y, z)) = let v : tt ≡ a = cc in let w : past is_blank s at ≡ q = cc in inl (v, y ∙ w, omega (arith, w))
    go (inr (x, y, z)) = inr y

name-ends : Ends name
unfolding name
name-ends s = up-end (past is_name_byte s (length s)) (length s) _ (past_end is_name_byte s)

name-cuts : Cuts name
unfolding name
name-cuts s at k a q l h e = go (run-cut is_name_byte s at k l h).how
  where
    w : (record { at = at; length = past is_name_byte s at - at } ≡ a) × (past is_name_byte s at ≡ q)
    w = was-up (eqb (past is_name_byte s at) at) at (past is_name_byte s at) q a (record { at = at; length = past is_name_byte s at - at }) e

    go : ((run is_name_byte (drop at (take k s)) ≡ run is_name_byte (drop at s)) × (past is_name_byte (take k s) at ≡ past is_name_byte s at) × (past is_name_byte s at ≤ k))
        ⊎ ((run is_name_byte (drop at (take k s)) ≡ take (k - at) (run is_name_byte (drop at s))) × (past is_name_byte (take k s) at ≡ k) × (k < past is_name_byte s at))
        → CutOf k a q (pick (eqb (past is_name_byte (take k s) at) at) (isnt 4 at) (is (record { at = at; length = past is_name_byte (take k s) at - at }) (past is_name_byte (take k s) at)))
    go (inl (x, y, z)) =
        up-cut k at (past is_name_byte (take k s) at) q a (record { at = at; length = past is_name_byte (take k s) at - at }) (eqb (past is_name_byte (take k s) at) at)
        (inl (ap (λ (n : ℕ). record { at = at; length = n - at }) y ∙ w.0, y ∙ w.1, omega (arith, w.1)))
    go (inr (x, y, z)) = up-cut k at (past is_name_byte (take k s) at) q a (record { at = at; length = past is_name_byte (take k s) at - at }) (eqb (past is_name_byte (take k s) at) at) (inr y)

-- ------------------------------------------------------------------ words

starts-in : (w xs : List ℕ) → starts w xs ≡ true → length w ≤ length xs
unfolding starts
starts-in [] xs e = omega arith
starts-in (w ∷ ws) [] e = let z : ◌≡◌ {A = ℕ} 0 1 = cc in let y : ⊥ = omega arith in absurd y
starts-in (w ∷ ws) (x ∷ xs) e = go (eqb w x) (starts-in ws xs) e
  where
    go : (t : Bool) → (starts ws xs ≡ true → length ws ≤ length xs) → pick t (starts ws xs) false ≡ true → length (w ∷ ws) ≤ length (x ∷ xs)
    go true f e = omega (arith, f e)
    go false f e = let z : ◌≡◌ {A = ℕ} 0 1 = cc in let y : ⊥ = omega arith in absurd y

-- a word that lies inside the cut stands there as it did
starts-take : (w xs : List ℕ) (m : ℕ) → length w ≤ m → starts w (take m xs) ≡ starts w xs
unfolding starts
starts-take [] xs m h = refl
starts-take (w ∷ ws) xs zero h = let z : ⊥ = omega arith in absurd z
starts-take (w ∷ ws) [] (suc m) h = refl
starts-take (w ∷ ws) (x ∷ xs) (suc m) h = ap (λ (b : Bool). pick (eqb w x) b false) (starts-take ws xs m (omega arith))

-- one that does not, does not stand there
starts-short : (w xs : List ℕ) (m : ℕ) → m ≤ length xs → m < length w → starts w (take m xs) ≡ false
starts-short w xs m l h = go (starts w (take m xs)) refl
  where
    go : (t : Bool) → starts w (take m xs) ≡ t → t ≡ false
    go true e = let z : ⊥ = omega (arith, starts-in w (take m xs) e, length-take-le m xs l) in absurd z
    go false e = refl

module _ (w s : List ℕ) (at k : ℕ) (l : at ≤ k) (h : k ≤ length s) where
  pub word_kept : at + length w ≤ k → word w (take k s) at ≡ word w s at
  unfolding word behind
  word_kept m = rw (drop_of_take at k s l, starts-take w (drop at s) (k - at) (omega arith))

  pub word-lost : k < at + length w → word w (take k s) at ≡ isnt 4 at
  unfolding word behind
  word-lost m = rw (drop_of_take at k s l, starts-short w (drop at s) (k - at) (omega (arith, length-drop at s)) (omega arith), eq-eqb at at refl)

-- a word that was read
pub word_read : (w s : List ℕ) (at : ℕ) (a : Unit {0}) (q : ℕ) → word w s at ≡ is a q → at + length w ≡ q
unfolding word behind
word_read w s at a q e = go (starts w (drop at s)) e
  where
    go : (t : Bool) → pick (eqb (pick t (at + length w) at) at) (isnt 4 at) (is tt (pick t (at + length w) at)) ≡ is a q → at + length w ≡ q
    go true h = (was-up (eqb (at + length w) at) at (at + length w) q a tt h).1
    go false h = let z : isnt 4 at ≡ is a q = rw (eq-eqb at at refl) at h in never z

pub word-ends : (w : List ℕ) → Ends (word w)
unfolding word behind starts
word-ends w s = up-end (pick (starts w (drop (length s) s)) (length s + length w) (length s)) (length s) tt (go w)
  where
    go : (v : List ℕ) → pick (starts v (drop (length s) s)) (length s + length v) (length s) ≡ length s
    go [] = omega arith
    go (c ∷ v) = rw (drop-length s)

pub word-cuts : (w : List ℕ) → Cuts (word w)
word-cuts w s at k a q l h e = go (leb (at + length w) k) refl
  where
    r : at + length w ≡ q
    r = word_read w s at a q e

    go : (b : Bool) → leb (at + length w) k ≡ b → CutOf k a q (word w (take k s) at)
    go true m = rw (word_kept w s at k l h (leb-true (at + length w) k m), e) (inl (refl, refl, omega (arith, r, leb-true (at + length w) k m)))
    go false m = rw (word-lost w s at k l h (leb-false (at + length w) k m)) (inr refl)

pub lead-ends : (w : List ℕ) → Ends (lead w)
unfolding lead
lead-ends w = seq-ends (word w) space (word-ends w) space-ends

pub lead-cuts : (w : List ℕ) → Cuts (lead w)
unfolding lead
lead-cuts w = seq-cuts (word w) space (word-cuts w) space-cuts space-ends

pub titled-ends : (w : List ℕ) → Ends (titled w)
unfolding titled
titled-ends w = seq-ends (lead w) name (lead-ends w) name-ends

pub titled-cuts : (w : List ℕ) → Cuts (titled w)
unfolding titled
titled-cuts w = seq-cuts (lead w) name (lead-cuts w) name-cuts name-ends
